-- A call that is taken keeps the count of codes and lines.
use Rattle.std.proofs.Common.{◌≡◌, ℕ, ◌+◌, true, false, List, [], ◌∷◌, ◌++◌, map, length, take, Some, None, Ok, Err, filter, Option, Result, sym, refl, ap, ◌∙◌, subst, append_assoc, append-nil, arith}
use Rattle.std.specs.List.{range_with_len, AllByRecursion as All}
use Rattle.std.proofs.ByRecursion.{All-weaker, all_kept_by}
use Rattle.std.proofs.lemmas.List.{length-map, map-append}
use Rattle.std.proofs.lemmas.Bool.{cond_both}
use Rattle.refusal.specs.declared.Refusal.{Refusal}
use Rattle.calendar.specs.Meaning.{Meaning}
use Rattle.deferral.specs.declared.opened.Opened.{Opened}
use Rattle.deferral.specs.Deadlines.{day_of, opened, deadlines_for}
use Rattle.report.specs.declared.line.Line.{Line}
use Rattle.report.specs.declared.report.Code.{Code}
use Rattle.report.specs.declared.report.Report.{Report}
use Rattle.rulebook.specs.declared.call.Call.{Call}
use Rattle.rulebook.specs.declared.call.Call.TheVariants.{List as Listing, Advance, Open, Enter, Amend, Cancel, CarryAway, Figures}
use Rattle.rulebook.specs.declared.record.Record.{Record}
use Rattle.rulebook.specs.Lists.{and_then, where_some}
use Rattle.rulebook.specs.Notebook.{Rules, Notebook, same_code, of_day, record_of, security_of, latest, latest_day, next_code, among, is_due, is_published, published_before}
use Rattle.rulebook.specs.Lines.{due_now, due_lines, told_from, recalled, recall_lines}
use Rattle.rulebook.specs.Taken.{settled, without, withdrawn, with_new, day_opened, fresh, entered, amended, noted, withdrawal_lines, after_call, lines_of}
use Rattle.rulebook.specs.Desk.{Desk}
use Rattle.rulebook.specs.Grounds.{ground, open_grounds}
use Rattle.rulebook.proofs.Codes.{codes_of, changed_codes, published_codes, kept_codes, all_coded, and_first, and_any, all_first}
use Rattle.rulebook.proofs.Numbering.{numbers_on_map}
use Rattle.rulebook.proofs.Grounds.{none_there}
use Rattle.rulebook.proofs.Openings.{not_early}
use Rattle.rulebook.proofs.Reaching.{Reached, Past, latest_reached, serials_on, Coded, Lined, coded_more, lined_more, coded_opened, lined_opened}
use Rattle.rulebook.proofs.Ordered.{all_in_order}
use Rattle.rulebook.proofs.LinesWritten.{length_told}
use Rattle.rulebook.proofs.Days.{noted_day, next_later}

-- a notebook, and all lines written since it was new
pub record Well (nb : Notebook) (lines : List Line) : Type 0 where
  pub coded : Coded nb.days (codes_of nb.records)
  pub lined : Lined nb.days nb.written lines

told_on : (day number : ℕ) (ts : List Record) → All (λ l. l.place.day ≡ day) (told_from day number ts)
told_on day number [] = tt
told_on day number (t ∷ ts) = (refl, told_on day (number + 1) ts)

told_numbers : (day number : ℕ) (ts : List Record) → map (λ l. l.place.number) (told_from day number ts) ≡ range_with_len number (length (told_from day number ts))
told_numbers day number [] = refl
told_numbers day number (t ∷ ts) = ap (λ (ns : List ℕ). number ∷ ns) (told_numbers day (number + 1) ts)

told_reached : (days : List Opened) (day number : ℕ) (ts : List Record) → All (λ t. Reached days day) ts → All (λ l. Reached days l.place.day) (told_from day number ts)
told_reached days day number [] h = tt
told_reached days day number (t ∷ ts) (r, h) = (r, told_reached days day (number + 1) ts h)

-- where there is a trade, a day was opened
pub records_reached : (nb : Notebook) → Coded nb.days (codes_of nb.records) → All (λ t. Reached nb.days (latest_day nb.days)) nb.records
records_reached nb h =
    All-weaker (λ t. Reached nb.days t.code.day) (λ t. Reached nb.days (latest_day nb.days)) (λ t r. latest_reached nb.days t.code.day r) nb.records
    (all_coded (λ c. Reached nb.days c.day) nb.records h.reached)

pub settled_well : (nb : Notebook) (lines : List Line) → Well nb lines → Well (settled nb) (lines ++ due_lines nb)
settled_well nb lines h =
    let day = latest_day nb.days in
    let due = due_now nb in
    let some : All (λ t. Reached nb.days day) due =
    all_in_order (λ t. Reached nb.days day) published_before (filter (is_due nb.clock) nb.records)
    (all_kept_by (is_due nb.clock) (λ t. Reached nb.days day) nb.records (records_reached nb h.coded)) in
    record {
      coded = subst (Coded nb.days) (sym (published_codes day (nb.written + 1) due nb.records)) h.coded;
      lined =
          subst (λ (n : ℕ). Lined nb.days (nb.written + n) (lines ++ due_lines nb)) (length_told day (nb.written + 1) due)
          (lined_more nb.days nb.written lines (due_lines nb) h.lined (told_reached nb.days day (nb.written + 1) due some)
          (told_on day (nb.written + 1) due) (told_numbers day (nb.written + 1) due));
    }

recalled_numbers : (nb : Notebook) (o : Option Record) → map (λ l. l.place.number) (where_some o (recalled nb)) ≡ range_with_len (nb.written + 1) (length (where_some o (recalled nb)))
recalled_numbers nb None = refl
recalled_numbers nb (Some t) =
    cond_both (is_published t.state) _ [] (λ ls. map (λ l. l.place.number) ls ≡ range_with_len (nb.written + 1) (length ls)) (λ e. refl) (λ e. refl)

recalled_on : (nb : Notebook) (o : Option Record) → All (λ l. l.place.day ≡ latest_day nb.days) (where_some o (recalled nb))
recalled_on nb None = tt
recalled_on nb (Some t) =
    cond_both (is_published t.state) _ [] (All (λ l. l.place.day ≡ latest_day nb.days)) (λ e. (refl, tt)) (λ e. tt)

pub without_well : (code : Code) (nb : Notebook) (lines : List Line) → Well nb lines → Well (without code nb) (lines ++ recall_lines nb code)
without_well code nb lines h =
    record {
      coded = subst (Coded nb.days) (sym (changed_codes code withdrawn (λ t. refl) nb.records)) h.coded;
      lined =
          lined_more nb.days nb.written lines (recall_lines nb code) h.lined
          (all_first (λ l. Reached nb.days l.place.day) (λ t. same_code t.code code) (recalled nb) nb.records
          (All-weaker (λ t. Reached nb.days (latest_day nb.days)) (λ t. All (λ l. Reached nb.days l.place.day) (recalled nb t))
          (λ t r. cond_both (is_published t.state) _ [] (All (λ l. Reached nb.days l.place.day)) (λ e. (r, tt)) (λ e. tt))
          nb.records (records_reached nb h.coded)))
          (recalled_on nb (record_of nb code)) (recalled_numbers nb (record_of nb code));
    }

-- a new trade, where there is one, has the next code of a day that was opened
abbrev pub New : List Opened → List Code → Option Record → Type 0
New days codes None = Unit {0}
New days codes (Some t) =
    Reached days t.code.day × (t.code.serial ≡ length (serials_on codes t.code.day) + 1) × (t.code.day ≡ latest_day days)

next_serial : (nb : Notebook) → (next_code nb).serial ≡ length (serials_on (codes_of nb.records) (latest_day nb.days)) + 1
next_serial nb =
    let day = latest_day nb.days in
    ap (λ (n : ℕ). n + 1)
    (sym (length-map (filter (of_day day) nb.records) (λ t. t.code.serial))
    ∙ ap length (numbers_on_map (λ c. c.day) (λ c. c.serial) (λ t. t.code) nb.records day))

fresh_new : (nb : Notebook) (t : Record) → t.code ≡ next_code nb → Reached nb.days (latest_day nb.days) → New nb.days (codes_of nb.records) (Some t)
fresh_new nb t e r =
    subst (λ (c : Code). Reached nb.days c.day × (c.serial ≡ length (serials_on (codes_of nb.records) c.day) + 1) × (c.day ≡ latest_day nb.days))
    (sym e) (r, next_serial nb, refl)

latest_some : {Y : Type 0} (P : Option Y → Type 0) (days : List Opened) (f : Opened → Option Y) → P None
    → ((o : Opened) → Reached days (latest_day days) → P (f o)) → P (and_then (latest days) f)
latest_some P [] f none some = none
latest_some P (o ∷ os) f none some = some o (omega arith)

pub entered_new : (rules : Rules) (nb : Notebook) (r : Report) → New nb.days (codes_of nb.records) (entered rules nb r)
entered_new rules nb r =
    let P : Option Record → Type 0 = New nb.days (codes_of nb.records) in
    latest_some P nb.days _ tt (λ o reached.
    and_any P (deadlines_for o nb.clock r.execution) _ tt (λ d.
    and_any P (security_of nb r.isin) _ tt (λ s. fresh_new nb (fresh rules nb false d r s) refl reached)))

pub amended_new : (rules : Rules) (nb : Notebook) (code : Code) (r : Report) → Coded nb.days (codes_of nb.records)
    → New nb.days (codes_of nb.records) (amended rules nb code r)
amended_new rules nb code r h =
    let P : Option Record → Type 0 = New nb.days (codes_of nb.records) in
    and_first P (λ t. Reached nb.days (latest_day nb.days)) (λ t. same_code t.code code) _ nb.records tt
    (λ t reached. and_any P (security_of nb r.isin) _ tt (λ s. fresh_new nb (fresh rules nb true t.deadlines r s) refl reached))
    (records_reached nb h)

pub new_well : (o : Option Record) (nb : Notebook) (lines : List Line) → New nb.days (codes_of nb.records) o → Well nb lines → Well (with_new o nb) lines
new_well None nb lines n h = h
new_well (Some t) nb lines n h =
    record {
      coded =
          subst (Coded nb.days) (sym (map-append (λ u. u.code) nb.records (t ∷ [])))
          (coded_more nb.days (codes_of nb.records) t.code h.coded n.0 n.1);
      lined = h.lined;
    }

pub opened_well : (m : Meaning) (day : ℕ) (r : Result Opened Refusal) (nb : Notebook) (lines : List Line) → opened m day ≡ r → Past nb.days day
    → Well nb lines → Well (day_opened r nb) lines
opened_well m day (Err r) nb lines e past h = h
opened_well m day (Ok o) nb lines e past h =
    let n = noted_day m day o e in
    let later : Past nb.days o.day = subst (Past nb.days) (sym n.0) past in
    record {
      coded =
          subst (Coded (take 3 (o ∷ nb.days))) (sym (kept_codes (λ c. among (take 3 (o ∷ nb.days)) c.day) nb.records))
          (coded_opened nb.days (codes_of nb.records) o h.coded later (next_later m o n.1));
      lined = lined_opened nb.days nb.written lines o h.lined later;
    }

-- a day that is opened lies after what was reached
pub opened_past : (rules : Rules) (d : Desk) → ground rules d Open ≡ None → Coded d.notebook.days (codes_of d.notebook.records)
    → Past d.notebook.days (day_of d.notebook.clock)
opened_past rules d e h =
    let day = day_of d.notebook.clock in
    not_early d.notebook.days day h.onward (none_there (open_grounds rules.calendar d.notebook day) e).1.1.0

as_they_are : (nb : Notebook) (lines : List Line) → Well nb lines → Well nb (lines ++ [])
as_they_are nb lines h = subst (Well nb) (sym (append-nil lines)) h

pub noted_well : (rules : Rules) (d : Desk) (call : Call) (lines : List Line) → ground rules d call ≡ None → Well d.notebook lines
    → Well (noted rules d.notebook call) (lines ++ withdrawal_lines d.notebook call)
noted_well rules d (Listing s) lines e h = as_they_are _ lines (record { coded = h.coded; lined = h.lined })
noted_well rules d (Advance moment) lines e h = as_they_are _ lines (record { coded = h.coded; lined = h.lined })
noted_well rules d Open lines e h =
    let nb = d.notebook in
    let day = day_of nb.clock in
    as_they_are (day_opened (opened rules.calendar day) nb) lines
    (opened_well rules.calendar day (opened rules.calendar day) nb lines refl (opened_past rules d e h.coded) h)
noted_well rules d (Enter r) lines e h =
    as_they_are (with_new (entered rules d.notebook r) d.notebook) lines
    (new_well (entered rules d.notebook r) d.notebook lines (entered_new rules d.notebook r) h)
noted_well rules d (Amend code r) lines e h =
    let nb = d.notebook in
    new_well (amended rules nb code r) (without code nb) (lines ++ recall_lines nb code)
    (subst (λ (cs : List Code). New nb.days cs (amended rules nb code r)) (sym (changed_codes code withdrawn (λ t. refl) nb.records)) (amended_new rules nb code r h.coded))
    (without_well code nb lines h)
noted_well rules d (Cancel member code) lines e h = without_well code d.notebook lines h
noted_well rules d (CarryAway room) lines e h = as_they_are d.notebook lines h
noted_well rules d (Figures isin day sheet) lines e h = as_they_are d.notebook lines h

-- the notebook after the call, with the lines that it writes
pub call_well : (rules : Rules) (d : Desk) (call : Call) (lines : List Line) → ground rules d call ≡ None → Well d.notebook lines
    → Well (after_call rules d.notebook call) (lines ++ lines_of rules d.notebook call)
call_well rules d call lines e h =
    let nb = d.notebook in
    let after = noted rules nb call in
    subst (Well (settled after)) (append_assoc lines (withdrawal_lines nb call) (due_lines after))
    (settled_well after (lines ++ withdrawal_lines nb call) (noted_well rules d call lines e h))
