-- The one trade of a code, by its index among the trades.
use mathlib.Core.List.{map-append}
use Rattle.std.specs.List.{find, AllByRecursion as All}
use Rattle.std.proofs.Common.{◌≡◌, ℕ, ◌+◌, ◌<◌, true, false, cond, List, [], ◌∷◌, Some, ◌++◌, length, get_or, take, drop, set, sym, refl, ap, ◌∙◌, add-one, arith}
use Rattle.std.proofs.ByRecursion.{All-from_get_or}
use Rattle.std.proofs.lemmas.List.{drop_more, get_or-drop, get_or-take, length-drop, length-take, set_split, take-append-drop}
use Rattle.std.proofs.lemmas.Bool.Decides.{nat_tests}
use Rattle.std.proofs.lemmas.Bool.{cond-true, cond-false}
use Rattle.report.specs.declared.report.Code.{Code}
use Rattle.rulebook.specs.declared.record.Record.{Record}
use Rattle.rulebook.specs.Notebook.{same_code}
use Rattle.rulebook.specs.Taken.{changed}
use Rattle.ledger.specs.Totalled.{CodesApart, OnlyOne}

-- the trade of a code changes, and no other
pub changed_none :
    (code : Code) (g : Record → Record) (rs : List Record) → All (λ t. same_code t.code code ≡ false) rs → changed code g rs ≡ rs
changed_none code g [] a = refl
changed_none code g (t ∷ rs) a =
    ap (λ b. cond b (g t) t ∷ changed code g rs) a.0 ∙ ap (λ ts. t ∷ ts) (changed_none code g rs a.1)

pub changed_one :
    (code : Code) (g : Record → Record) (xs : List Record) (t : Record) (ys : List Record) → OnlyOne code xs t ys
    → changed code g (xs ++ t ∷ ys) ≡ xs ++ g t ∷ ys
changed_one code g xs t ys one =
    map-append (λ u. cond (same_code u.code code) (g u) u) xs (t ∷ ys)
    ∙ ap (λ zs. zs ++ changed code g (t ∷ ys)) (changed_none code g xs one.before)
    ∙ ap (λ b. xs ++ cond b (g t) t ∷ changed code g ys) one.its
    ∙ ap (λ zs. xs ++ g t ∷ zs) (changed_none code g ys one.behind)

-- the first of them is the one
first_one : (code : Code) (xs : List Record) (t : Record) (ys : List Record) → OnlyOne code xs t ys → find (λ u. same_code u.code code) (xs ++ t ∷ ys) ≡ Some t
first_one code [] t ys one = cond-true _ _ _ one.its
first_one code (x ∷ xs) t ys one =
    cond-false _ _ _ one.before.0 ∙ first_one code xs t ys (record { its = one.its; before = one.before.1; behind = one.behind })

same_code_itself : (c : Code) → same_code c c ≡ true
same_code_itself c = grind (arith, nat_tests)

module _ (rs : List Record) (i : ℕ) (d : Record) (h : i < length rs) where
  -- the trades around it
  pub split_at : rs ≡ take i rs ++ get_or rs i d ∷ drop (i + 1) rs
  split_at = sym (take-append-drop i rs) ∙ ap (λ ys. take i rs ++ ys) (drop_more rs i d h)

  other_code :
      CodesApart rs → (k : ℕ) → k < length rs → (k ≡ i → ⊥) → same_code (get_or rs k d).code (get_or rs i d).code ≡ false
  other_code apart k l ne = grind (arith, nat_tests, apart k i d l h, ne)

  pub only_one : CodesApart rs → OnlyOne (get_or rs i d).code (take i rs) (get_or rs i d) (drop (i + 1) rs)
  only_one apart =
      record {
        its = same_code_itself (get_or rs i d).code;
        before =
            All-from_get_or (λ u. same_code u.code (get_or rs i d).code ≡ false) (take i rs) d (λ k l.
            let below : k < i = omega (arith, length-take i rs) in
            ap (λ u. same_code u.code (get_or rs i d).code) (get_or-take i rs k d below)
            ∙ other_code apart k (omega arith) (λ e. omega arith));
        behind =
            All-from_get_or (λ u. same_code u.code (get_or rs i d).code ≡ false) (drop (i + 1) rs) d (λ k l.
            ap (λ u. same_code u.code (get_or rs i d).code) (get_or-drop (i + 1) rs k d)
            ∙ other_code apart (i + 1 + k) (omega (arith, length-drop (i + 1) rs)) (λ e. omega arith));
      }

  -- the trade of its code changes in its place
  pub changed_at : (g : Record → Record) → CodesApart rs → changed (get_or rs i d).code g rs ≡ set rs i (g (get_or rs i d))
  changed_at g apart =
      ap (changed (get_or rs i d).code g) split_at
      ∙ changed_one (get_or rs i d).code g (take i rs) (get_or rs i d) (drop (i + 1) rs) (only_one apart)
      ∙ ap (λ n. take i rs ++ g (get_or rs i d) ∷ drop n rs) (add-one i)
      ∙ sym (set_split rs i (g (get_or rs i d)) h)

  -- and is the first of its code
  pub first_at : CodesApart rs → find (λ u. same_code u.code (get_or rs i d).code) rs ≡ Some (get_or rs i d)
  first_at apart =
      ap (find (λ u. same_code u.code (get_or rs i d).code)) split_at
      ∙ first_one (get_or rs i d).code (take i rs) (get_or rs i d) (drop (i + 1) rs) (only_one apart)
