-- The words of a request, by how many there are.
use Rattle.std.proofs.Common.{◌≡◌, ℕ, ◌+◌, ◌<◌, ◌≤◌, List, [], ◌∷◌, map, length, get_or, drop, Err, refl, ap, ◌∙◌, arith}
use Rattle.std.proofs.lemmas.List.{nil_from_length, length-drop, at_drop_more}
use Rattle.reading.specs.declared.request.Fault.TheVariants.{TooManyWords}
use Rattle.reading.specs.Request.{request_read}

module _ {X : Type 0} where
  -- the word at a place, and those behind it; behind the last there is none
  at_place : (words : List X) (i : ℕ) (x : X) → i < length words → x ≡ get_or words i x → drop i words ≡ x ∷ drop (i + 1) words
  at_place words i x l is = grind (arith, at_drop_more (λ ws. ws) words i x l)

  at_end : (words : List X) (n : ℕ) → length words ≡ n → drop n words ≡ []
  at_end words n e = nil_from_length (drop n words) (omega (arith, length-drop n words))

  pub no_word : (words : List X) → length words ≡ 0 → words ≡ []
  no_word words n = at_end words 0 n

  pub one_word : (words : List X) (x : X) → length words ≡ 1 → x ≡ get_or words 0 x → words ≡ x ∷ []
  one_word words x n i = at_place words 0 x (omega arith) i ∙ ap (λ ws. x ∷ ws) (at_end words 1 n)

  pub two_words : (words : List X) (x y : X) → length words ≡ 2 → x ≡ get_or words 0 x → y ≡ get_or words 1 y → words ≡ x ∷ y ∷ []
  two_words words x y n i j = at_place words 0 x (omega arith) i ∙ ap (λ ws. x ∷ ws) (at_place words 1 y (omega arith) j ∙ ap (λ ws. y ∷ ws) (at_end words 2 n))

  pub three_words : (words : List X) (x y z : X) → length words ≡ 3 → x ≡ get_or words 0 x → y ≡ get_or words 1 y → z ≡ get_or words 2 z → words ≡ x ∷ y ∷ z ∷ []
  three_words words x y z n i j k =
      at_place words 0 x (omega arith) i
      ∙ ap (λ ws. x ∷ ws) (at_place words 1 y (omega arith) j ∙ ap (λ ws. y ∷ ws) (at_place words 2 z (omega arith) k ∙ ap (λ ws. z ∷ ws) (at_end words 3 n)))

  pub many_words : (bytes : X → List ℕ) (words : List X) → 4 ≤ length words → Err TooManyWords ≡ request_read (map bytes words)
  unfolding request_read
  many_words bytes [] n = absurd (omega arith)
  many_words bytes (a ∷ []) n = absurd (omega arith)
  many_words bytes (a ∷ b ∷ []) n = absurd (omega arith)
  many_words bytes (a ∷ b ∷ d ∷ []) n = absurd (omega arith)
  many_words bytes (a ∷ b ∷ d ∷ u ∷ words) n = refl
