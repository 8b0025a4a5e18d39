-- A day that fell out: no trade has it, and none will.
use Rattle.std.proofs.Common.{◌≡◌, ℕ, ◌+◌, ◌≤◌, Bool, List, [], ◌∷◌, take, Some, None, Ok, Err, Option, Result, sym, refl, subst, arith}
use Rattle.std.specs.List.{AllByRecursion as All}
use Rattle.std.proofs.ByRecursion.{All-append, all_kept_by}
use Rattle.std.proofs.lemmas.List.{map-append}
use Rattle.refusal.specs.declared.Refusal.{Refusal}
use Rattle.calendar.specs.Meaning.{Meaning}
use Rattle.deferral.specs.declared.opened.Opened.{Opened}
use Rattle.deferral.specs.Deadlines.{day_of, opened}
use Rattle.report.specs.declared.report.Code.{Code}
use Rattle.rulebook.specs.declared.call.Call.{Call}
use Rattle.rulebook.specs.declared.call.Call.TheVariants.{List as Listing, Advance, Open, Enter, Amend, Cancel, CarryAway, Figures}
use Rattle.rulebook.specs.declared.record.Record.{Record}
use Rattle.rulebook.specs.Notebook.{Rules, Notebook, latest_day, among}
use Rattle.rulebook.specs.Taken.{withdrawn, without, with_new, day_opened, entered, amended, noted}
use Rattle.rulebook.specs.Desk.{Desk}
use Rattle.rulebook.specs.Grounds.{ground}
use Rattle.rulebook.proofs.Codes.{codes_of, changed_codes, kept_codes}
use Rattle.rulebook.proofs.Reaching.{Reached, Past, below}
use Rattle.rulebook.proofs.Taking.{New, entered_new, amended_new, opened_past}
use Rattle.rulebook.proofs.Sound.{Sound}
use Rattle.rulebook.proofs.Days.{noted_day}

-- the trade's day fell out: no trade has it, and none will
pub record Lost (t : Record) (days : List Opened) (codes : List Code) : Type 0 where
  pub later : Reached days (t.code.day + 1)
  pub none : All (λ c. c.day ≡ t.code.day → ⊥) codes

pub reached_latest : (days : List Opened) (day : ℕ) → Reached days day → day ≤ latest_day days
reached_latest [] day h = absurd h
reached_latest (o ∷ os) day h = h

lost_new : (t : Record) (o : Option Record) (nb : Notebook) (codes : List Code) → New nb.days codes o → Lost t nb.days (codes_of nb.records)
    → Lost t (with_new o nb).days (codes_of (with_new o nb).records)
lost_new t None nb codes n h = h
lost_new t (Some u) nb codes n h =
    record {
      later = h.later;
      none =
          subst (All (λ c. c.day ≡ t.code.day → ⊥)) (sym (map-append (λ v. v.code) nb.records (u ∷ [])))
          (All-append (λ c. c.day ≡ t.code.day → ⊥) (codes_of nb.records) (u.code ∷ []) h.none
          ((λ e. omega (arith, e, n.2, reached_latest nb.days (t.code.day + 1) h.later)), tt));
    }

lost_without : (t : Record) (code : Code) (nb : Notebook) → Lost t nb.days (codes_of nb.records) → Lost t nb.days (codes_of (without code nb).records)
lost_without t code nb h = subst (Lost t nb.days) (sym (changed_codes code withdrawn (λ u. refl) nb.records)) h

lost_opened : (t : Record) (m : Meaning) (day : ℕ) (r : Result Opened Refusal) (nb : Notebook) → opened m day ≡ r → Past nb.days day
    → Lost t nb.days (codes_of nb.records) → Lost t (day_opened r nb).days (codes_of (day_opened r nb).records)
lost_opened t m day (Err r) nb e past h = h
lost_opened t m day (Ok o) nb e past h =
    let after : Past nb.days o.day = subst (Past nb.days) (sym (noted_day m day o e).0) past in
    let still : ℕ → Bool = among (take 3 (o ∷ nb.days)) in
    record {
      later = omega (arith, below nb.days o (t.code.day + 1) after h.later);
      none =
          subst (All (λ c. c.day ≡ t.code.day → ⊥)) (sym (kept_codes (λ c. still c.day) nb.records))
          (all_kept_by (λ c. still c.day) (λ c. c.day ≡ t.code.day → ⊥) (codes_of nb.records) h.none);
    }

pub lost_noted : (t : Record) (rules : Rules) (d : Desk) (call : Call) → ground rules d call ≡ None → Sound d.notebook
    → Lost t d.notebook.days (codes_of d.notebook.records)
    → Lost t (noted rules d.notebook call).days (codes_of (noted rules d.notebook call).records)
lost_noted t rules d (Listing s) e w h = h
lost_noted t rules d (Advance moment) e w h = h
lost_noted t rules d Open e (lines, w) h =
    lost_opened t rules.calendar (day_of d.notebook.clock) (opened rules.calendar (day_of d.notebook.clock)) d.notebook refl (opened_past rules d e w.coded) h
lost_noted t rules d (Enter r) e w h =
    lost_new t (entered rules d.notebook r) d.notebook (codes_of d.notebook.records) (entered_new rules d.notebook r) h
lost_noted t rules d (Amend code r) e (lines, w) h =
    lost_new t (amended rules d.notebook code r) (without code d.notebook) (codes_of d.notebook.records) (amended_new rules d.notebook code r w.coded)
    (lost_without t code d.notebook h)
lost_noted t rules d (Cancel member code) e w h = lost_without t code d.notebook h
lost_noted t rules d (CarryAway room) e w h = h
lost_noted t rules d (Figures isin day sheet) e w h = h
