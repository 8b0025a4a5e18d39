-- The keys that a register keeps in its memory. Callers never open these two: the layout is the register's own.
-- Register and memory are two arguments and no pair, as a call takes them: in a clause each has its own old and new value.
use Rattle.std.specs.Prelude.{◌≤◌, Bool, List, length, take}
use Rattle.register.specs.declared.Register.{Register}
use Rattle.register.specs.Lists.{Rising}

-- the keys kept, in order
unfoldable pub kept : {K : Type 0} → Register K → List K → List K
kept register memory = take register.count memory

-- the keys kept rise and fit the memory
unfoldable pub Stands : {K : Type 0} → (K → K → Bool) → Register K → List K → Type 0
Stands lt register memory = (register.count ≤ length memory) × Rising lt (take register.count memory)
