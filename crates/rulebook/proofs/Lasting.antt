-- What later calls leave of the trades of a security and a day.
use Rattle.std.proofs.Common.{◌≡◌, ℕ, ◌+◌, ◌≤◌, Bool, true, false, cond, not, ◌&&◌, ◌⊎◌, List, [], ◌∷◌, ◌++◌, map, take, is_some, Some, None, Ok, Err, filter, Option, Result, sym, refl, ap, ◌∙◌, subst, inl, inr, append-nil, arith}
use Rattle.std.specs.List.{ContainsAt as Has, AllByRecursion as All}
use Rattle.std.proofs.lemmas.List.Elements.{filter-append}
use Rattle.std.proofs.ByRecursion.{All-map, All-weaker, all_has_itself, all_kept_by, kept_by_passes}
use Rattle.std.proofs.lemmas.Bool.{and_cases, and_parts, both_ways, eqb-true, not-false}
use Rattle.std.proofs.lemmas.Bool.Decides.{nat_tests}
use Rattle.refusal.specs.declared.Refusal.{Refusal}
use Rattle.calendar.specs.Meaning.{Meaning}
use Rattle.deferral.specs.declared.opened.Opened.{Opened}
use Rattle.deferral.specs.Deadlines.{day_of, opened}
use Rattle.report.specs.declared.report.Code.{Code}
use Rattle.rulebook.specs.declared.call.Call.{Call}
use Rattle.rulebook.specs.declared.call.Call.TheVariants.{List as Listing, Advance, Open, Enter, Amend, Cancel, CarryAway, Figures}
use Rattle.rulebook.specs.declared.record.Record.{Record}
use Rattle.rulebook.specs.Lists.{passes}
use Rattle.rulebook.specs.Notebook.{Rules, Notebook, same_code, same_isin, of_day, record_of, latest_day, among, is_due, published_before}
use Rattle.rulebook.specs.Lines.{due_now}
use Rattle.rulebook.specs.Taken.{withdrawn, without, with_new, day_opened, entered, amended, noted, settled}
use Rattle.rulebook.specs.Desk.{Desk, taken}
use Rattle.rulebook.specs.Former.{brings_to, takes_from, publishes_on, Untouched, Unpublished}
use Rattle.rulebook.specs.Grounds.{ground}
use Rattle.rulebook.specs.Histories.{History, step, fed, Rightly}
use Rattle.rulebook.proofs.Apart.{Apart, same_code_is}
use Rattle.rulebook.proofs.Codes.{codes_of, published_codes, kept_codes}
use Rattle.rulebook.proofs.Plain.{plain}
use Rattle.rulebook.proofs.Reaching.{Reached, Past, below}
use Rattle.rulebook.proofs.Sieves.{all_of, all_two, kept_same, kept_both, some_none}
use Rattle.rulebook.proofs.Taking.{opened_past}
use Rattle.rulebook.proofs.Always.{none_from}
use Rattle.rulebook.proofs.Views.{beside, on_list, view, surviving, others, on_changed, changed_none, full_settled, public_settled, Aside, elsewhere, untouched}
use Rattle.rulebook.proofs.Sound.{Sound, sound_apart, sound_noted, sound_step}
use Rattle.rulebook.proofs.Lost.{Lost, lost_noted}
use Rattle.rulebook.proofs.Ordered.{all_in_order}
use Rattle.rulebook.proofs.Days.{noted_day}

-- a trade that is not beside it, and the trade of a code that is not
pub on_new : (t : Record) (o : Option Record) (nb : Notebook) → passes (beside t) o ≡ false → on_list t (with_new o nb).records ≡ on_list t nb.records
on_new t None nb e = refl
on_new t (Some u) nb e =
    filter-append (beside t) nb.records (u ∷ [])
    ∙ ap (λ (b : Bool). on_list t nb.records ++ cond b (u ∷ []) []) e ∙ append-nil (on_list t nb.records)

pub on_without : (t : Record) (code : Code) (nb : Notebook) → Sound nb → passes (beside t) (record_of nb code) ≡ false
    → on_list t (without code nb).records ≡ on_list t nb.records
on_without t code nb s e =
    on_changed t code withdrawn (λ u. refl) nb.records
    ∙ changed_none code withdrawn (on_list t nb.records) (untouched t nb.records (sound_apart nb s) code e)

-- the trades are seen as they were, or their day fell out
abbrev pub Holding : Record → (Record → Bool) → List Record → Notebook → Type 0
Holding t s seen nb = ((view t s nb.records ≡ seen) × Reached nb.days t.code.day) ⊎ Lost t nb.days (codes_of nb.records)

holding_opened : (t : Record) (s : Record → Bool) (seen : List Record) (m : Meaning) (day : ℕ) (r : Result Opened Refusal) (nb : Notebook) → opened m day ≡ r
    → Past nb.days day → view t s nb.records ≡ seen → Reached nb.days t.code.day → Holding t s seen (day_opened r nb)
holding_opened t s seen m day (Err r) nb e past v reached = inl (v, reached)
holding_opened t s seen m day (Ok o) nb e past v reached = by_cases (among (take 3 (o ∷ nb.days)) t.code.day) refl
  where
    after : t.code.day + 1 ≤ o.day
    after =
        let past_it = below nb.days o t.code.day (subst (Past nb.days) (sym (noted_day m day o e).0) past) reached in
        omega (arith, past_it)

    still : (a b : Bool) → (b ≡ true → a ≡ true) → (a && b) ≡ b
    still a b h = grind (arith, nat_tests, h)

    by_cases : (b : Bool) → among (take 3 (o ∷ nb.days)) t.code.day ≡ b → Holding t s seen (day_opened (Ok o) nb)
    by_cases true held =
        let stays : Record → Bool = λ u. among (take 3 (o ∷ nb.days)) u.code.day in
        let same : on_list t (filter stays nb.records) ≡ on_list t nb.records =
        sym (kept_both stays (beside t) nb.records)
        ∙ kept_same (λ u. stays u && beside t u) (beside t) nb.records
        (all_of _ (λ u. still (stays u) (beside t u) (λ h.
        ap (among (take 3 (o ∷ nb.days))) (eqb-true u.code.day t.code.day (and_parts (same_isin u.report.isin t.report.isin) (of_day t.code.day u) h).1) ∙ held))
        nb.records) in
        inl (ap (λ (us : List Record). map (plain t) (filter s us)) same ∙ v, omega (arith, after))
    by_cases false gone = inr (record {
      later = after;
      none =
          subst (All (λ c. c.day ≡ t.code.day → ⊥)) (sym (kept_codes (λ c. among (take 3 (o ∷ nb.days)) c.day) nb.records))
          (All-weaker (λ c. among (take 3 (o ∷ nb.days)) c.day ≡ true) (λ c. c.day ≡ t.code.day → ⊥)
          (λ c h e. both_ways (among (take 3 (o ∷ nb.days)) t.code.day) gone (ap (among (take 3 (o ∷ nb.days))) (sym e) ∙ h))
          (filter (λ c. among (take 3 (o ∷ nb.days)) c.day) (codes_of nb.records))
          (kept_by_passes (λ c. among (take 3 (o ∷ nb.days)) c.day) (codes_of nb.records)));
    })

reached_new : (t : Record) (o : Option Record) (nb : Notebook) → Reached nb.days t.code.day → Reached (with_new o nb).days t.code.day
reached_new t None nb h = h
reached_new t (Some u) nb h = h

pub holding_noted : (t : Record) (s : Record → Bool) (seen : List Record) (rules : Rules) (d : Desk) (call : Call) → ground rules d call ≡ None → Sound d.notebook
    → brings_to rules d.notebook t.report.isin t.code.day call ≡ false → takes_from d.notebook t.report.isin t.code.day call ≡ false
    → Holding t s seen d.notebook → Holding t s seen (noted rules d.notebook call)
holding_noted t s seen rules d call e w brings takes (inr lost) = inr (lost_noted t rules d call e w lost)
holding_noted t s seen rules d (Listing x) e w brings takes (inl h) = inl h
holding_noted t s seen rules d (Advance moment) e w brings takes (inl h) = inl h
holding_noted t s seen rules d Open e (lines, w) brings takes (inl (v, reached)) =
    let day = day_of d.notebook.clock in
    holding_opened t s seen rules.calendar day (opened rules.calendar day) d.notebook refl (opened_past rules d e w.coded) v reached
holding_noted t s seen rules d (Enter r) e w brings takes (inl (v, reached)) =
    let nb = d.notebook in
    inl (ap (λ (us : List Record). map (plain t) (filter s us)) (on_new t (entered rules nb r) nb brings) ∙ v, reached_new t (entered rules nb r) nb reached)
holding_noted t s seen rules d (Amend code r) e w brings takes (inl (v, reached)) =
    let nb = d.notebook in
    inl (
      ap (λ (us : List Record). map (plain t) (filter s us)) (on_new t (amended rules nb code r) (without code nb) brings ∙ on_without t code nb w takes) ∙ v,
      reached_new t (amended rules nb code r) (without code nb) reached,
    )
holding_noted t s seen rules d (Cancel member code) e w brings takes (inl (v, reached)) =
    inl (ap (λ (us : List Record). map (plain t) (filter s us)) (on_without t code d.notebook w takes) ∙ v, reached)
holding_noted t s seen rules d (CarryAway room) e w brings takes (inl h) = inl h
holding_noted t s seen rules d (Figures isin day sheet) e w brings takes (inl h) = inl h

-- what falls due at a call does not change what is seen
abbrev pub Quiet : Record → (Record → Bool) → Notebook → Type 0
Quiet t s nb = view t s (settled nb).records ≡ view t s nb.records

abbrev pub Steady : Record → (Record → Bool) → Rules → Desk → History → Type 0
Steady t s rules d [] = Unit {0}
Steady t s rules d (e ∷ es) = (e.refused ≡ false → Quiet t s (noted rules d.notebook e.call)) × Steady t s rules (step rules d e) es

pub holding_settled : (t : Record) (s : Record → Bool) (seen : List Record) (nb : Notebook) → Quiet t s nb → Holding t s seen nb → Holding t s seen (settled nb)
holding_settled t s seen nb quiet (inl (v, reached)) = inl (quiet ∙ v, reached)
holding_settled t s seen nb quiet (inr lost) =
    inr (subst (Lost t nb.days) (sym (published_codes (latest_day nb.days) (nb.written + 1) (due_now nb) nb.records)) lost)

pub holding_fed : (t : Record) (s : Record → Bool) (seen : List Record) (rules : Rules) (d : Desk) (h : History) → Rightly rules d h → Sound d.notebook
    → Untouched rules t.report.isin t.code.day d h → Steady t s rules d h → Holding t s seen d.notebook → Holding t s seen (fed rules d h).notebook
holding_fed t s seen rules d [] r w u q h = h
holding_fed t s seen rules d (e ∷ es) (r, rs) w (u, us) (q, qs) h =
    holding_fed t s seen rules (step rules d e) es rs (sound_step rules d e.call e.refused r w) us qs (by_cases e.refused r u q)
  where
    by_cases : (refused : Bool) → refused ≡ is_some (ground rules d e.call)
        → (refused ≡ false → (brings_to rules d.notebook t.report.isin t.code.day e.call ≡ false) × (takes_from d.notebook t.report.isin t.code.day e.call ≡ false))
        → (refused ≡ false → Quiet t s (noted rules d.notebook e.call))
        → Holding t s seen (cond refused d (taken rules d e.call)).notebook
    by_cases true r u q = h
    by_cases false r u q =
        holding_settled t s seen (noted rules d.notebook e.call) (q refl)
        (holding_noted t s seen rules d e.call (none_from (ground rules d e.call) (sym r)) w (u refl).0 (u refl).1 h)

-- what survives is never changed by what falls due
pub full_quiet : (t : Record) (nb : Notebook) → Quiet t surviving nb
full_quiet t nb = full_settled t (latest_day nb.days) (nb.written + 1) (due_now nb) nb.records

pub full_steady : (t : Record) (rules : Rules) (d : Desk) (h : History) → Steady t surviving rules d h
full_steady t rules d [] = tt
full_steady t rules d (e ∷ es) = ((λ f. full_quiet t (noted rules d.notebook e.call)), full_steady t rules (step rules d e) es)

-- nor are the other published ones, where no other is published
pub public_quiet : (t : Record) (rules : Rules) (d : Desk) (call : Call) → ground rules d call ≡ None → Sound d.notebook
    → publishes_on rules d.notebook t.report.isin t.code.day t.code call ≡ false → Quiet t (others t.code) (noted rules d.notebook call)
public_quiet t rules d call e w silent =
    let nb = noted rules d.notebook call in
    let apart = sound_apart nb (sound_noted rules d call e w) in
    let held : All (Has nb.records) (due_now nb) =
    all_in_order (Has nb.records) published_before (filter (is_due nb.clock) nb.records)
    (all_kept_by (is_due nb.clock) (Has nb.records) nb.records (all_has_itself nb.records)) in
    let none = some_none (λ u. beside t u && not (same_code u.code t.code)) (due_now nb) silent in
    public_settled t (latest_day nb.days) (nb.written + 1) (due_now nb) nb.records
    (all_two (Has nb.records) (λ u. (beside t u && not (same_code u.code t.code)) ≡ false) (Aside t (codes_of (on_list t nb.records)))
    (λ u has off. aside nb apart u has (and_cases (beside t u) (not (same_code u.code t.code)) off)) (due_now nb) held none)
  where
    aside : (nb : Notebook) → Apart (codes_of nb.records) → (u : Record) → Has nb.records u → (beside t u ≡ false) ⊎ (not (same_code u.code t.code) ≡ false)
        → Aside t (codes_of (on_list t nb.records)) u
    aside nb apart u has (inl off) =
        inl (All-map (λ c. same_code c u.code ≡ false) (λ v. v.code) (on_list t nb.records) (elsewhere t nb.records apart u has off))
    aside nb apart u has (inr same) = inr (same_code_is u.code t.code (not-false (same_code u.code t.code) same))

pub public_steady : (t : Record) (rules : Rules) (d : Desk) (h : History) → Rightly rules d h → Sound d.notebook
    → Unpublished rules t.report.isin t.code.day t.code d h → Steady t (others t.code) rules d h
public_steady t rules d [] r w u = tt
public_steady t rules d (e ∷ es) (r, rs) w (u, us) = (
  (λ f. public_quiet t rules d e.call (none_from (ground rules d e.call) (sym (sym f ∙ r))) w (u f)),
  public_steady t rules (step rules d e) es rs (sound_step rules d e.call e.refused r w) us,
)
