-- What the calls that change a register answer, and what they leave.
use Rattle.std.specs.Prelude.{ℕ, Bool, cond, List, length, nat_lt, Result, Ok, Err}
use Rattle.register.specs.Lists.{has, with_key}
use Rattle.register.specs.declared.answers.PutError.{PutError}
use Rattle.register.specs.declared.answers.PutError.TheVariants.{Present, Full}
use Rattle.register.specs.declared.answers.Absent.{Absent}

-- a key that is in is present; else it is entered while there is a place
abbrev pub put_judged : Bool → ℕ → ℕ → Result Unit PutError
put_judged present count places = cond present (Err Present) (cond (nat_lt count places) (Ok tt) (Err Full))

abbrev pub put_answer : {K : Type 0} → (K → K → Bool) → K → List K → ℕ → Result Unit PutError
put_answer lt k xs places = put_judged (has lt k xs) (length xs) places

-- the keys after a put that was answered so
abbrev pub put_keys : {K : Type 0} → (K → K → Bool) → K → Result Unit PutError → List K → List K
put_keys lt k (Ok entered) xs = with_key lt k xs
put_keys lt k (Err refused) xs = xs

-- a key that is in is taken out
abbrev pub out_judged : Bool → Result Unit Absent
out_judged present = cond present (Ok tt) (Err (record {}))

abbrev pub out_answer : {K : Type 0} → (K → K → Bool) → K → List K → Result Unit Absent
out_answer lt k xs = out_judged (has lt k xs)
