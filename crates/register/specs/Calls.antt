-- What each call promises of a register that stands, over the keys kept before it and after it.
use Rattle.std.specs.Prelude.{◌≡◌, ℕ, Bool, List, length, Option, Result}
use Rattle.register.specs.declared.Register.{Register}
use Rattle.register.specs.declared.answers.PutError.{PutError}
use Rattle.register.specs.declared.answers.Absent.{Absent}
use Rattle.register.specs.Lists.{before, from, between, without, first, last, if_before, if_from, Least, Greatest}
use Rattle.register.specs.Kept.{kept, Stands}
use Rattle.register.specs.Answers.{put_answer, put_keys, out_answer}

module _ {K : Type 0} (lt : K → K → Bool) where
  pub record Smallest (xs : List K) (found : Option K) : Type 0 where
    pub value : found ≡ first xs
    pub least : Least lt xs found

  pub record Largest (xs : List K) (found : Option K) : Type 0 where
    pub value : found ≡ last xs
    pub greatest : Greatest lt xs found

  -- the first key from `low` on, which up to any bound is the least key of that stretch
  pub record FirstFrom (low : K) (xs : List K) (found : Option K) : Type 0 where
    pub value : found ≡ first (from lt low xs)
    pub least : (high : K) → Least lt (between lt low high xs) (if_before lt high found)

  -- the last key before `high`, which down to any bound is the greatest key of that stretch
  pub record LastBefore (high : K) (xs : List K) (found : Option K) : Type 0 where
    pub value : found ≡ last (before lt high xs)
    pub greatest : (low : K) → Greatest lt (between lt low high xs) (if_from lt low found)

  -- the register and the memory are named as they were, and primed as the call leaves them
  module _ (k : K) (register : Register K) (memory : List K) (register' : Register K) (memory' : List K) where
    pub record Putting (answer : Result Unit PutError) : Type 0 where
      pub value : answer ≡ put_answer lt k (kept register memory) (length memory)
      pub keys : kept register' memory' ≡ put_keys lt k answer (kept register memory)
      pub stands : Stands lt register' memory'

    pub record TakingOut (answer : Result Unit Absent) : Type 0 where
      pub value : answer ≡ out_answer lt k (kept register memory)
      pub keys : kept register' memory' ≡ without lt k (kept register memory)
      pub stands : Stands lt register' memory'

    pub record Dropping (gone : ℕ) : Type 0 where
      pub value : gone ≡ length (before lt k (kept register memory))
      pub keys : kept register' memory' ≡ from lt k (kept register memory)
      pub stands : Stands lt register' memory'
