-- The order of a dictionary, number by number.
use Rattle.std.proofs.Common.{◌≡◌, ℕ, ◌+◌, not, ◌&&◌, eqb, ltb, [], ◌∷◌, arith}
use Rattle.std.proofs.lemmas.Bool.Decides.{nat_tests}
use Rattle.std.specs.Cmp.{IsStrictWeakOrder}
use Rattle.register.specs.Fields.{lexical}
use Rattle.rulebook.specs.Sheets.{executed_before}

-- trades are executed in the order of moment and serial
pub executed_ranks : IsStrictWeakOrder executed_before
executed_ranks = record { one_way = λ t u e. grind (arith, nat_tests); chain = λ t u v p q. grind (arith, nat_tests) }

-- what is before (D, 0, 0, 0) is of an earlier day
pub before_start : (d s a b D : ℕ) → lexical (d ∷ s ∷ a ∷ b ∷ []) (D ∷ 0 ∷ 0 ∷ 0 ∷ []) ≡ ltb d D
before_start d s a b D = grind (arith, nat_tests)

-- the keys from (D, S) to before (D, S + 1) are those of D and S
pub inside :
    (d s a b D S : ℕ)
    → (lexical (d ∷ s ∷ a ∷ b ∷ []) (D ∷ (S + 1) ∷ 0 ∷ 0 ∷ []) && not (lexical (d ∷ s ∷ a ∷ b ∷ []) (D ∷ S ∷ 0 ∷ 0 ∷ []))) ≡ (eqb s S && eqb d D)
inside d s a b D S = grind (arith, nat_tests)
