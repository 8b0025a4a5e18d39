-- The words of a line hold no space.
use Rattle.std.proofs.Common.{◌≡◌, ℕ, true, false, cond, not, ◌&&◌, List, [], ◌∷◌, refl, ap, ◌∙◌}
use Rattle.std.specs.List.{list_all, slice_split, onto_first, AllByRecursion as All}
use Rattle.reading.specs.Words.{is_space, words_of}

solid_before : (c : ℕ) (words : List (List ℕ)) → is_space c ≡ false → All (λ word. list_all (λ d. not (is_space d)) word ≡ true) words → All (λ word. list_all (λ d. not (is_space d)) word ≡ true) (onto_first c words)
solid_before c [] e h = (ap (λ b. not b && true) e, tt)
solid_before c (word ∷ words) e h = (ap (λ b. not b && list_all (λ d. not (is_space d)) word) e ∙ h.0, h.1)

pub words_solid : (line : List ℕ) → All (λ word. list_all (λ c. not (is_space c)) word ≡ true) (words_of line)
unfolding words_of
words_solid [] = (refl, tt)
words_solid (c ∷ line) =
    elim (is_space c) as (λ b. is_space c ≡ b → All (λ word. list_all (λ d. not (is_space d)) word ≡ true) (cond b ([] ∷ slice_split is_space line) (onto_first c (slice_split is_space line)))) [
      | true ↦ λ e. (refl, words_solid line)
      | false ↦ λ e. solid_before c (slice_split is_space line) e (words_solid line)
    ] refl
