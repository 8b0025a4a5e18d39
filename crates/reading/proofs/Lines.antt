-- A line read word after word.
use Rattle.std.proofs.Common.{◌≡◌, ℕ, ◌+◌, Bool, true, false, not, eqb, ltb, List, [], ◌∷◌, length, get_or, drop, is_some, Some, None, Ok, Err, Option, Result, Bor, unwrap_or, sym, refl, ap, subst, ◌∙◌, add-zero, arith}
use Rattle.std.proofs.lemmas.List.{drop-drop, get_or-drop, length-drop}
use Rattle.std.proofs.lemmas.Bool.Decides.{nat_tests}
use Rattle.std.proofs.lemmas.Iterator.Splits.{YieldsList-from_slice_split}
use Rattle.std.specs.Fn.{CalledAt}
use Rattle.std.specs.Slice.Iter.{split_rest, split_done, split_callee, split_steps}
use denote.Param.Members.{Mut}
use Rattle.std.specs.Iterator.{AlwaysYields}
use Rattle.refusal.specs.Grounds.{unless}
use Rattle.reading.specs.declared.flaw.Flaw.{Flaw}
use Rattle.reading.specs.declared.flaw.Flaw.TheVariants.{TooManyWords}
use Rattle.reading.specs.declared.line.Asked.{Asked}
use Rattle.reading.specs.Flaws.{flaw_if, first_of, first_flaw}
use Rattle.reading.specs.Line.{word_at, line_flaws, asked_in}
use Rattle.reading.specs.Words.{is_space, words_of}
use Rattle.reading.proofs.Told.{passes, says, stops}

-- what is told where the first words, k of them, are right
abbrev pub told_from : ℕ → List (List ℕ) → Result Asked Flaw
told_from k words = unless (first_flaw (drop k (line_flaws words))) (asked_in words)

-- k words of them are taken and right, and the others are left; a call that finds none leaves all as it is
pub record Reached {S : Type 0} (steps : S → Option (Bor (List ℕ)) → S → Type 0) (k : ℕ) (words : List (List ℕ)) (s : S) : Type 0 where
  pub answer : told_from 0 words ≡ told_from k words
  pub rest : AlwaysYields steps (λ x. x.now) s (drop k words)
  pub stays : (t u : S) → steps t None u → u ≡ t

-- a word that may not be there; where it is not, it is as an empty one
abbrev word_of : Option (Bor (List ℕ)) → List ℕ
word_of None = []
word_of (Some word) = word.now

unwrapped : (r : Option (Bor (List ℕ))) (w z : Bor (List ℕ)) → w ≡ unwrap_or r z → z.now ≡ [] → w.now ≡ word_of r
unwrapped None w z e empty = ap (λ b. b.now) e ∙ empty
unwrapped (Some x) w z e empty = ap (λ b. b.now) e

-- the word that comes, and those behind it
module _ {S : Type 0} (steps : S → Option (Bor (List ℕ)) → S → Type 0) where
  comes : (left : List (List ℕ)) (r : Option (Bor (List ℕ))) (s t : S) → AlwaysYields steps (λ x. x.now) s left → ((t u : S) → steps t None u → u ≡ t) → steps s r t
      → (word_of r ≡ get_or left 0 []) × AlwaysYields steps (λ x. x.now) t (drop 1 left) × (is_some r ≡ not (eqb (length left) 0))
  comes [] None s t all stays h = (refl, subst (λ u. AlwaysYields steps (λ x. x.now) u []) (sym (stays s t h)) all, refl)
  comes [] (Some x) s t all stays h = absurd (all x t h)
  comes (word ∷ left) None s t all stays h = absurd (all.0 t h)
  comes (word ∷ left) (Some x) s t all stays h = ((all.1 x t h).0, (all.1 x t h).1, grind (arith, nat_tests))

-- a line cut by a test of spaces, of which the first call is known
pub begins : {F : Type 0} (g : Mut F (Bor ℕ × Unit {0}) Bool) (line : List ℕ) {s : _} (t : _) (r : Option (Bor (List ℕ))) {f : F} → split_steps g s r t
    → split_rest s ≡ line → split_done s ≡ false → split_callee s ≡ f → ((x : ℕ) (b : Bool) (q : F) → CalledAt g f x b q → (q ≡ f) × (b ≡ is_space x))
    → Reached (split_steps g) 0 (words_of line) s
unfolding words_of
begins g line t r first rest done closure test = record {
  answer = refl;
  rest = (YieldsList-from_slice_split g is_space line rest done closure test).runs;
  stays = λ t u h. h.1;
}

module _ {S : Type 0} {steps : S → Option (Bor (List ℕ)) → S → Type 0} where
  -- a word taken, at place k
  module _ (k : ℕ) {words : List (List ℕ)} {s t : S} {r : Option (Bor (List ℕ))} {w : Bor (List ℕ)} (z : Bor (List ℕ)) (reached : Reached steps k words s) (h : steps s r t) (given : w ≡ unwrap_or r z) (empty : z.now ≡ []) where
    taken : w.now ≡ word_at k words
    taken = unwrapped r w z given empty ∙ (comes steps (drop k words) r s t reached.rest reached.stays h).0 ∙ get_or-drop k words 0 [] ∙ ap (λ n. get_or words n []) (add-zero k)

    module _ {X : Type 0} (flaw : List ℕ → Option Flaw) (value : List ℕ → X) (split : told_from k words ≡ unless (first_of (flaw (word_at k words)) (first_flaw (drop (k + 1) (line_flaws words)))) (asked_in words)) where
      -- a right word
      pub goes_on : {x : X} → Ok x ≡ unless (flaw w.now) (value w.now) → Reached steps (k + 1) words t
      goes_on {x} e = record {
        answer = reached.answer ∙ split ∙ passes flaw value w.now (word_at k words) x (first_flaw (drop (k + 1) (line_flaws words))) (asked_in words) taken e;
        rest = subst (λ left. AlwaysYields steps (λ x. x.now) t left) (drop-drop 1 k words) (comes steps (drop k words) r s t reached.rest reached.stays h).1;
        stays = reached.stays;
      }

      -- a wrong word is told
      pub ends : {f : Flaw} → Err f ≡ unless (flaw w.now) (value w.now) → Err f ≡ told_from 0 words
      ends {f} e = stops flaw value w.now (word_at k words) f (first_flaw (drop (k + 1) (line_flaws words))) (asked_in words) taken e ∙ sym (reached.answer ∙ split)

    -- a right word says its value
    pub gives : {X : Type 0} (flaw : List ℕ → Option Flaw) (value : List ℕ → X) {x : X} → Ok x ≡ unless (flaw w.now) (value w.now) → x ≡ value (word_at k words)
    gives flaw value {x} e = says flaw value w.now (word_at k words) x taken e

  -- behind seven right words
  module _ {words : List (List ℕ)} {s t : S} {r : Option (Bor (List ℕ))} (reached : Reached steps 7 words s) (h : steps s r t) where
    longer : is_some r ≡ ltb 7 (length words)
    longer =
        let e = (comes steps (drop 7 words) r s t reached.rest reached.stays h).2 in
        let n = length-drop 7 words in
        grind (arith, nat_tests)

    pub ends_many : is_some r ≡ true → Err TooManyWords ≡ told_from 0 words
    ends_many e = ap (λ b. unless (first_of (flaw_if b TooManyWords) None) (asked_in words)) (sym e ∙ longer) ∙ sym reached.answer

    pub ends_right : (asked : Asked) → is_some r ≡ false → asked ≡ asked_in words → Ok asked ≡ told_from 0 words
    ends_right asked e same = ap Ok same ∙ ap (λ b. unless (first_of (flaw_if b TooManyWords) None) (asked_in words)) (sym e ∙ longer) ∙ sym reached.answer
