-- Every calendar gives what the order of the tiers' moments needs.
use Rattle.std.proofs.Common.{◌≡◌, ℕ, ◌<◌, ◌≤◌, true, leb, inl, inr, arith}
use Rattle.std.proofs.lemmas.Bool.{and_parts, leb-true}
use Rattle.std.proofs.lemmas.Bool.Decides.{nat_tests}
use Rattle.calendar.specs.declared.day.Kind.{Kind}
use Rattle.calendar.specs.Meaning.{Meaning, Lawful, known, trades, trading}
use Rattle.calendar.specs.Trading.{closing_time}
use Rattle.deferral.specs.declared.deadlines.Deadlines.{Deadlines}
use Rattle.deferral.specs.declared.tier.Tier.{Tier}
use Rattle.deferral.specs.declared.tier.Tier.TheVariants.{Two, Three, Four}
use Rattle.deferral.specs.Deadlines.{day_of, deadlines}
use Rattle.deferral.specs.Publication.{tier_moment, Timely}
use Rattle.deferral.specs.Tiers.{tier_number}

pub closes : (k : Kind) → (47700 ≤ closing_time k) × (closing_time k ≤ 62100)
closes k = grind arith

pub hour : (m : Meaning) (day : ℕ) → Lawful m → trading m day ≡ true → m.offset day ≤ 3600
hour m day law t =
    let inside = and_parts (leb m.first day) (leb day m.last) (and_parts (known m day) (trades (m.kind day)) t).0 in
    elim (law.hour day (leb-true _ _ inside.0) (leb-true _ _ inside.1)) [ inl e ↦ omega arith | inr e ↦ omega arith ]

pub timely : (m : Meaning) (day next execution : ℕ) → Lawful m → trading m day ≡ true → trading m next ≡ true → day < next → day_of execution ≡ day
    → Timely (deadlines m day next) execution
timely m day next execution law t u after within =
    let a = hour m day law t in
    let b = hour m next law u in
    let p = closes (m.kind day) in
    let q = closes (m.kind next) in
    record { noon_later = omega arith; close_later = omega arith; noon_first = omega arith }

-- the moments of the tiers follow one another
steps : (d : Deadlines) (execution : ℕ) → Timely d execution
    → (tier_moment d execution Two ≤ tier_moment d execution Three) × (tier_moment d execution Three ≤ tier_moment d execution Four)
steps d execution timely = grind (arith, nat_tests)

pub moments_rise : (d : Deadlines) (execution : ℕ) (s t : Tier) → Timely d execution → tier_number s ≤ tier_number t
    → tier_moment d execution s ≤ tier_moment d execution t
moments_rise d e s t timely h = let later = steps d e timely in grind arith
