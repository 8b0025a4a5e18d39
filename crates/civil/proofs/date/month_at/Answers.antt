use Rattle.std.proofs.Common.{◌≡◌, ℕ, ◌<◌, ◌≤◌, Some, None, Option, Bor, subst, rules, of_calls}
use Rattle.std.specs.List.{HoldsAt, AllWithin}
use Rattle.std.specs.Option.{MatchOption, IsSome}
use Rattle.std.proofs.lemmas.Iterator.{YieldsList-from_slice, first_from_find}
use Rattle.civil.specs.declared.month.Month.{Month}
use Rattle.civil.specs.Dates.{year_length, days_before}
use Rattle.civil.proofs.Months.{months, days_through, has_begun, not_all}
use Rattle.civil.proofs.date.month_at.Goals as goal

-- the first month that ends after the day
abbrev First : ℕ → ℕ → Option (Bor Month) → Type 0
First y since r =
    MatchOption r (AllWithin (λ m. days_through y m ≤ since) months 0 12)
    (λ m. (since < days_through y m.now) × (i : ℕ) × (i < 12) × HoldsAt (λ n. n ≡ m.now) months i × AllWithin (λ n. days_through y n ≤ since) months 0 i)

is_found : (y since : ℕ) (r : Option (Bor Month)) → since < year_length y → First y since r → IsSome r
is_found y since None h first = absurd (not_all y since h (λ k d low high. first k d low high))
is_found y since (Some m) h first = search rules

begun : (y since : ℕ) (m : Bor Month) → First y since (Some m) → days_before y m.now ≤ since
begun y since m first = has_begun y since first.1 m.now first.2 first.3 (λ k d low high. first.4 k d low high)

pub unwrap-requires : goal.unwrap-requires
unwrap-requires c =
    let y = c.args.year in
    let since = c.args.since in
    let first : First y since c.find.result =
    first_from_find _ _ c.find.result (λ m. since < days_through y m) (λ m. days_through y m ≤ since) c.find.ensures.ran (YieldsList-from_slice months c.iter.ensures.rest) (λ m q called. search (rules, of_calls)) (λ m q called. search (rules, of_calls)) in
    is_found y since c.find.result c.requires first

pub returns-clause-begun : goal.returns-clause-begun
returns-clause-begun c =
    let y = c.args.year in
    let since = c.args.since in
    let first : First y since c.find.result =
    first_from_find _ _ c.find.result (λ m. since < days_through y m) (λ m. days_through y m ≤ since) c.find.ensures.ran (YieldsList-from_slice months c.iter.ensures.rest) (λ m q called. search (rules, of_calls)) (λ m q called. search (rules, of_calls)) in
    begun y since c.unwrap.result (subst (First y since) c.unwrap.ensures first)
