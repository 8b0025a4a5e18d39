-- What the calls of a register are proved by: those that read, and those that change it.
use Rattle.std.proofs.Common.{◌≡◌, ℕ, ◌+◌, ◌-◌, ◌<◌, ◌≤◌, List, ◌++◌, length, take, ap, ◌∙◌, arith}
use Rattle.std.specs.List.{insert}
use Rattle.std.proofs.lemmas.List.{length-take-le, take_at, take-append-le, take-take, take_min, take_rest}
use Rattle.std.proofs.lemmas.List.Edits.{length-insert}
use Rattle.register.proofs.Found.{first_of, last_of, smallest_is, largest_is, first_from_is, last_before_is, count_is}
use Rattle.register.proofs.Rises.{rising_kept_by, without_absent}
use Rattle.register.proofs.Lawful.{laws}

-- as many of the memory's first keys as they are, are they
pub front : {K : Type 0} (memory : List K) (n : ℕ) → n ≤ length memory → take (length (take n memory)) memory ≡ take n memory
front memory n h = ap (λ m. take m memory) (length-take-le n memory h)

-- a key written among the first keys and one place more
pub entered :
    {K : Type 0} (memory new rest : List K) (n at : ℕ) (k : K) → n < length memory → at ≤ n
    → new ≡ insert (take (length (take (n + 1) memory) - 1) (take (n + 1) memory)) at k → take (n + 1) (new ++ rest) ≡ insert (take n memory) at k
entered memory new rest n at k h l is =
    let long : length (take (n + 1) memory) - 1 ≡ n = omega (arith, length-take-le (n + 1) memory (omega arith)) in
    let those : new ≡ insert (take n memory) at k = is ∙ rw (long, take-take n (n + 1) memory (omega arith)) in
    let all : length new ≡ n + 1 = omega (arith, ap length those, length-insert (take n memory) at k (omega (arith, length-take-le n memory (omega arith))), length-take-le n memory (omega arith)) in
    take_at new rest (n + 1) all ∙ those

pub ruleset reads = (laws, take_min, take_rest, first_of, last_of, smallest_is, largest_is, first_from_is, last_before_is, count_is)

pub ruleset changes = (front, take-append-le, rising_kept_by, without_absent, count_is)
