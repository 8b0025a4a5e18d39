-- Every call that is taken keeps what holds of the notebook.
use Rattle.std.proofs.Common.{◌≡◌, ℕ, ◌-◌, ◌^◌, ◌<◌, ◌≤◌, min, max, true, false, eqb, ltb, List, [], ◌∷◌, take, Some, None, Ok, Err, Option, Result, sym, refl, ap, subst, arith, rules}
use Rattle.std.specs.List.{AllByRecursion as All}
use Rattle.std.proofs.ByRecursion.{All-weaker, All-take, All-push, all_kept_by, kept_by_passes}
use Rattle.std.proofs.lemmas.Bool.{eq-eqb, ltb-false, or_left}
use Rattle.refusal.specs.declared.Refusal.{Refusal}
use Rattle.calendar.specs.Meaning.{Meaning, Lawful as Kept}
use Rattle.calendar.specs.Trading.{close}
use Rattle.deferral.specs.declared.deadlines.Deadlines.{Deadlines}
use Rattle.deferral.specs.declared.opened.Opened.{Opened}
use Rattle.deferral.specs.declared.tier.Tier.{Tier}
use Rattle.deferral.specs.declared.tier.Tier.TheVariants.{Four}
use Rattle.deferral.specs.Deadlines.{day_of, opened}
use Rattle.deferral.specs.Judged.{trade_tier}
use Rattle.deferral.specs.Publication.{tier_moment}
use Rattle.deferral.specs.Tiers.{tier_number}
use Rattle.deferral.proofs.Opening.{next_found}
use Rattle.deferral.proofs.Timely.{moments_rise}
use Rattle.report.specs.declared.report.Code.{Code}
use Rattle.report.specs.declared.report.Report.{Report}
use Rattle.report.specs.Published.{trade_of}
use Rattle.rulebook.specs.declared.call.Call.{Call}
use Rattle.rulebook.specs.declared.call.Call.TheVariants.{List as Listing, Advance, Open, Enter, Amend, Cancel, CarryAway, Figures}
use Rattle.rulebook.specs.declared.record.Record.{Record}
use Rattle.rulebook.specs.Lists.{passes}
use Rattle.rulebook.specs.Notebook.{Rules, Notebook, among, latest, latest_day}
use Rattle.rulebook.specs.Taken.{day_opened, without, fresh, entered, amended, with_new, noted, settled}
use Rattle.rulebook.specs.Desk.{Desk, new_desk}
use Rattle.rulebook.specs.Grounds.{ground, grounds, too_early}
use Rattle.rulebook.specs.Histories.{History, Lawful, notebook_after}
use Rattle.rulebook.proofs.Always.{always}
use Rattle.rulebook.proofs.Brought.{Brought, brought_by_entry, brought_by_amendment}
use Rattle.rulebook.proofs.Changes.{lasts_settled, lasts_withdrawn}
use Rattle.rulebook.proofs.Days.{Noted, noted_day, next_later, nexts_rise, closes_rise}
use Rattle.rulebook.proofs.Grounds.{none_there}
use Rattle.rulebook.proofs.Held.{Sound, SoundTrade, Spaced, Held, dates_timely, spaced_take}

latest_day_is : (ds : List Opened) (o : Opened) → latest ds ≡ Some o → latest_day ds ≡ o.day
latest_day_is [] o e = absurd cc
latest_day_is (p ∷ ps) o e = let same : p ≡ o = cc in ap (λ (x : Opened). x.day) same

pub latest_among : (ds : List Opened) (o : Opened) → latest ds ≡ Some o → among ds (latest_day ds) ≡ true
latest_among [] o e = absurd cc
latest_among (p ∷ ps) o e = or_left (eqb p.day p.day) (among ps p.day) (eq-eqb p.day p.day refl)

highest : (t : Tier) → tier_number t ≤ 4
highest t = search rules

pub earliest_of_both : (a b c k : ℕ) → a ≤ b → c ≤ b → min (max a c) k ≤ b
earliest_of_both a b c k h i = omega arith

-- a new trade's moment is at most the close of the trading day after the open one
fresh_moment : (rules : Rules) (nb : Notebook) (r : Report) (t : Record) → Kept rules.calendar → (b : Brought rules nb r t)
    → (fresh rules nb b.amended b.deadlines r b.security).moment ≤ close rules.calendar b.opened.day.next
fresh_moment rules nb r t law b =
    let m : Meaning = rules.calendar in
    let o : Opened = b.opened.day in
    let n = b.opened.noted in
    let x = b.dates in
    let after-o = next_found m o.day o.next n.next_is in
    let after-x = next_found m (day_of r.execution) x.next x.next_is in
    let tier : Tier = trade_tier rules.tier (trade_of r b.security) in
    let rise : tier_moment b.deadlines r.execution tier ≤ b.deadlines.next.close =
    moments_rise b.deadlines r.execution tier Four (dates_timely m r.execution b.deadlines o.day law x) (highest tier) in
    let is : b.deadlines.next.close ≡ close m x.next = ap (λ (d : Deadlines). d.next.close) x.is in
    let later = closes_rise m x.next o.next law after-x.trades after-o.trades
    (nexts_rise m (day_of r.execution) o.day x.next o.next n.trades x.next_is n.next_is x.before) in
    let tomorrow = closes_rise m o.day o.next law n.trades after-o.trades (omega (arith, after-o.after)) in
    earliest_of_both (tier_moment b.deadlines r.execution tier) (close m o.next) nb.clock (2 ^ 64 - 1)
    (omega (arith, rise, is, later)) (omega (arith, tomorrow, b.opened.before_close, n.close_is))

-- it is sound, and of a day held
abbrev pub WellPlaced : Rules → Notebook → Record → Type 0
WellPlaced rules nb t = SoundTrade rules.calendar t × (among nb.days t.code.day ≡ true)

pub fresh_sound : (rules : Rules) (nb : Notebook) (r : Report) (t : Record) → Kept rules.calendar → Brought rules nb r t → WellPlaced rules nb t
fresh_sound rules nb r t law b =
    let m : Meaning = rules.calendar in
    let o : Opened = b.opened.day in
    let f : Record = fresh rules nb b.amended b.deadlines r b.security in
    let sound : Sound m r.execution b.deadlines o.day f.moment =
    record { dates = b.dates; last = o.next; last_is = b.opened.noted.next_is; in_time = fresh_moment rules nb r t law b } in
    subst (WellPlaced rules nb) b.is (
      subst (λ (x : ℕ). Sound m r.execution b.deadlines x f.moment) (sym (latest_day_is nb.days o b.opened.day_is)) sound,
      latest_among nb.days o b.opened.day_is,
    )

held_with_new : (rules : Rules) (nb : Notebook) (x : Option Record) → ((t : Record) → x ≡ Some t → WellPlaced rules nb t) → Held rules nb
    → Held rules (with_new x nb)
held_with_new rules nb None new held = held
held_with_new rules nb (Some t) new held =
    record {
      days = held.days;
      spaced = held.spaced;
      trades = All-push _ nb.records t held.trades (new t refl).0;
      placed = All-push _ nb.records t held.placed (new t refl).1;
    }

held_without : (rules : Rules) (nb : Notebook) (code : Code) → Held rules nb → Held rules (without code nb)
held_without rules nb code held =
    record {
      days = held.days;
      spaced = held.spaced;
      trades = lasts_withdrawn (SoundTrade rules.calendar) (λ e p t s. s) code nb.records held.trades;
      placed = lasts_withdrawn (λ t. among nb.days t.code.day ≡ true) (λ e p t s. s) code nb.records held.placed;
    }

-- a day that is not opened too early is after those held
spaced_with : (m : Meaning) (o : Opened) (ds : List Opened) → All (Noted m) ds → Spaced ds
    → passes (λ p. ltb o.day p.next) (latest ds) ≡ false → Spaced (o ∷ ds)
spaced_with m o [] all s e = (tt, tt)
spaced_with m o (p ∷ ps) all s e =
    let first = ltb-false o.day p.next e in
    let later = next_later m p all.0 in
    (((first, omega arith), All-weaker _ (λ q. (q.next ≤ o.day) × (q.day < o.day)) (λ q h. (omega arith, omega arith)) ps s.0), s)

pub spaced_opened : (rules : Rules) (nb : Notebook) (o : Opened) → Held rules nb → too_early nb (day_of nb.clock) ≡ false
    → o.day ≡ day_of nb.clock → Spaced (o ∷ nb.days)
spaced_opened rules nb o held early is =
    spaced_with rules.calendar o nb.days held.days held.spaced
    (subst (λ (x : ℕ). passes (λ p. ltb x p.next) (latest nb.days) ≡ false) (sym is) early)

held_opened : (rules : Rules) (nb : Notebook) → too_early nb (day_of nb.clock) ≡ false → Held rules nb → (x : Result Opened Refusal)
    → opened rules.calendar (day_of nb.clock) ≡ x → Held rules (day_opened x nb)
held_opened rules nb early held (Err r) e = held
held_opened rules nb early held (Ok o) e =
    let n = noted_day rules.calendar (day_of nb.clock) o e in
    record {
      days = All-take (Noted rules.calendar) 3 (o ∷ nb.days) (n.1, held.days);
      spaced = spaced_take 3 (o ∷ nb.days) (spaced_opened rules nb o held early n.0);
      trades = all_kept_by _ _ nb.records held.trades;
      placed = kept_by_passes (λ t. among (take 3 (o ∷ nb.days)) t.code.day) nb.records;
    }

held_settled : (rules : Rules) (nb : Notebook) → Held rules nb → Held rules (settled nb)
held_settled rules nb held =
    record {
      days = held.days;
      spaced = held.spaced;
      trades = lasts_settled (SoundTrade rules.calendar) (λ e p t s. s) nb held.trades;
      placed = lasts_settled (λ t. among nb.days t.code.day ≡ true) (λ e p t s. s) nb held.placed;
    }

held_noted : (rules : Rules) → Kept rules.calendar → (d : Desk) (call : Call) → ground rules d call ≡ None → Held rules d.notebook
    → Held rules (noted rules d.notebook call)
held_noted rules law d (Listing s) none held =
    record { days = held.days; spaced = held.spaced; trades = held.trades; placed = held.placed }
held_noted rules law d (Advance moment) none held =
    record { days = held.days; spaced = held.spaced; trades = held.trades; placed = held.placed }
held_noted rules law d Open none held =
    held_opened rules d.notebook (none_there (grounds rules d Open) none).1.1.0 held _ refl
held_noted rules law d (Enter r) none held =
    held_with_new rules d.notebook (entered rules d.notebook r)
    (λ t e. fresh_sound rules d.notebook r t law (brought_by_entry rules d r t held none e)) held
held_noted rules law d (Amend code r) none held =
    held_with_new rules (without code d.notebook) (amended rules d.notebook code r)
    (λ t e. fresh_sound rules d.notebook r t law (brought_by_amendment rules d code r t held none e))
    (held_without rules d.notebook code held)
held_noted rules law d (Cancel member code) none held = held_without rules d.notebook code held
held_noted rules law d (CarryAway room) none held = held
held_noted rules law d (Figures isin day sheet) none held = held

pub held_after : (rules : Rules) → Kept rules.calendar → (h : History) → Lawful rules h → Held rules (notebook_after rules h)
held_after rules law h lawful =
    always rules (λ d. Held rules d.notebook)
    (λ d call none held. held_settled rules (noted rules d.notebook call) (held_noted rules law d call none held)) new_desk h lawful
    (record { days = tt; spaced = tt; trades = tt; placed = tt })
