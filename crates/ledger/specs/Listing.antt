-- A security is listed: over the one of its ISIN, or behind the last.
use Rattle.std.specs.Prelude.{◌≡◌, ℕ, ◌+◌, ◌<◌, true, cond, ◌⊎◌, List, [], ◌∷◌, map, length, take, replicate, is_some, Some, None, Option, nat_lt, slice_index_or, slice_set}
use Rattle.report.specs.declared.security.Security.{Security}
use Rattle.rulebook.specs.Notebook.{same_isin}
use Rattle.rulebook.specs.Taken.{with_security}
use Rattle.ledger.specs.declared.listed.Listed.{Listed}
use Rattle.ledger.specs.Places.{place_of}
use Rattle.ledger.specs.Totalled.{no_slot}

-- a security that has no trades yet
abbrev pub untraded : Security → Listed
untraded s = record { security = s; slots = replicate 3 no_slot }

-- a security written over another, whose totals stay
abbrev pub written_over : Security → Listed → Listed
written_over s l = record { security = s; slots = l.slots }

abbrev pub with_listing : Security → List Listed → List Listed
with_listing s [] = untraded s ∷ []
with_listing s (x ∷ xs) = cond (same_isin x.security.isin s.isin) (written_over s x ∷ xs) (x ∷ with_listing s xs)

-- the place that the security has among the first `count`
abbrev pub place_among : Security → ℕ → List Listed → Option ℕ
place_among s count ls = place_of (take count ls) s.isin

-- in a slice of which the first `count` are listed; a write past its end changes nothing
abbrev pub slice_at : Security → ℕ → List Listed → Option ℕ → List Listed
slice_at s count ls (Some place) = slice_set ls place (written_over s (slice_index_or ls place (untraded s)))
slice_at s count ls None = slice_set ls count (untraded s)

abbrev pub slice_listing : Security → ℕ → List Listed → List Listed
slice_listing s count ls = slice_at s count ls (place_among s count ls)

-- how many are listed then
abbrev pub count_at : ℕ → ℕ → Option ℕ → ℕ
count_at count room (Some place) = count
count_at count room None = cond (nat_lt count room) (count + 1) count

abbrev pub count_listing : Security → ℕ → List Listed → ℕ
count_listing s count ls = count_at count (length ls) (place_among s count ls)

-- what a listing in a slice leaves and answers
pub record Listing (s : Security) (count : ℕ) (before after : List Listed) (answer : ℕ) : Type 0 where
  pub slice : after ≡ slice_listing s count before
  pub answered : answer ≡ count_listing s count before
  -- where it is listed already, or there is a place behind the last
  pub front :
      (is_some (place_among s count before) ≡ true) ⊎ (count < length before)
      → take answer after ≡ with_listing s (take count before)
  pub securities :
      (is_some (place_among s count before) ≡ true) ⊎ (count < length before)
      → map (λ l. l.security) (take answer after) ≡ with_security s (map (λ l. l.security) (take count before))
