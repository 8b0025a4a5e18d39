-- A day that is opened comes after the days opened before it.
use Rattle.std.proofs.Common.{◌≡◌, ℕ, ◌<◌, false, ltb, List, [], ◌∷◌, arith}
use Rattle.std.specs.List.{AllByRecursion as All}
use Rattle.std.proofs.lemmas.Bool.{ltb-false}
use Rattle.deferral.specs.declared.opened.Opened.{Opened}
use Rattle.rulebook.specs.Lists.{passes}
use Rattle.rulebook.specs.Notebook.{latest}
use Rattle.rulebook.proofs.Reaching.{Past}

-- a day that is not too early lies after what was reached
pub not_early : (days : List Opened) (day : ℕ) → All (λ o. o.day < o.next) days → passes (λ o. ltb day o.next) (latest days) ≡ false → Past days day
not_early [] day h e = tt
not_early (o ∷ os) day (h, hs) e = omega (arith, ltb-false day o.next e)
