use Rattle.std.proofs.Common.{◌≡◌, ℕ, suc, ◌+◌, ◌-◌, ◌<◌, ◌≤◌, Bool, true, false, cond, ◌&&◌, sym, refl, ap, ◌∙◌, arith}
use Rattle.calendar.specs.declared.day.Kind.{Kind}
use Rattle.calendar.specs.declared.day.Kind.TheVariants.{Closed}
use Rattle.calendar.specs.Meaning.{Meaning, known}
use Rattle.almanac.specs.Tallies.{count, is_full, is_half}
use Rattle.almanac.proofs.tally.tally_of.Goals as goal

one_day : (f : Kind → Bool) (b : Bool) (k : Kind) → f Closed ≡ false → ◌≡◌ {A = ℕ} (cond (b && f k) 1 0) (cond (f (cond b k Closed)) 1 0)
one_day f true k e = refl
one_day f false k e = ap (λ (t : Bool). cond t 1 0) (sym e)

at_most : (b : Bool) → cond b 1 0 ≤ 1
at_most true = omega arith
at_most false = omega arith

-- one day more of those that are left
one_more : (f : Kind → Bool) (m : Meaning) (first after days counted r all : ℕ) (k : Kind) → f Closed ≡ false → after < days
    → k ≡ cond (known m (first + after)) (m.kind (first + after)) Closed
    → all ≡ counted + count f m (first + after) (days - after) → r ≡ counted + cond (f k) 1 0
    → all ≡ r + count f m (first + (after + 1)) (days - (after + 1))
one_more f m first after days counted r all k e h is inv more =
    let left : days - after ≡ suc (days - (after + 1)) = omega arith in
    let next : first + after + 1 ≡ first + (after + 1) = omega arith in
    let day : count f m (first + after) (days - after) ≡ cond (f k) 1 0 + count f m (first + (after + 1)) (days - (after + 1)) =
    ap (count f m (first + after)) left
    ∙ ap (λ (n : ℕ). n + count f m (first + after + 1) (days - (after + 1))) (one_day f (known m (first + after)) (m.kind (first + after)) e ∙ ap (λ (x : Kind). cond (f x) 1 0) (sym is))
    ∙ ap (λ (n : ℕ). cond (f k) 1 0 + count f m n (days - (after + 1))) next in
    omega arith

pub loop-after-preserved : goal.loop-after-preserved
loop-after-preserved g c =
    let m = g.C.Calendar.meaning c.args.calendar.now in
    let one = at_most (is_full c.kind_on.result) in
    let another = at_most (is_half c.kind_on.result) in (
      one_more is_full m c.args.first c.loop-after.after c.args.days c.loop-after.tally.full _ _ c.kind_on.result refl (omega arith) c.kind_on.ensures c.loop-after.invariant.0 (omega (arith, one, c.with-tally.ensures.full)),
      one_more is_half m c.args.first c.loop-after.after c.args.days c.loop-after.tally.half _ _ c.kind_on.result refl (omega arith) c.kind_on.ensures c.loop-after.invariant.1 (omega (arith, another, c.with-tally.ensures.half)),
      omega (arith, one),
      omega (arith, another),
    )
