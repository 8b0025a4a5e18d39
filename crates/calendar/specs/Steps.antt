-- From a day to the day beside it.
use Rattle.std.specs.Prelude.{◌≡◌, ℕ, zero, suc, ◌+◌, ◌^◌, cond, Some, None, Option, nat_lt}

-- the day after a day, where 32 bits name it
abbrev pub later : ℕ → Option ℕ
later day = cond (nat_lt (day + 1) (2 ^ 32)) (Some (day + 1)) None

-- the day before a day
abbrev pub earlier : ℕ → Option ℕ
earlier zero = None
earlier (suc day) = Some day

-- what is given for a day is the day that a step reaches
abbrev pub Gives : (ℕ → Option ℕ → Type 0) → (ℕ → Option ℕ) → Type 0
Gives given step = (day : ℕ) (r : Option ℕ) → given day r → r ≡ step day
