-- What a call that is taken does to the notebook, and the lines that it writes.
use Rattle.std.specs.Prelude.{ℕ, ◌+◌, Bool, true, false, cond, List, [], ◌∷◌, ◌++◌, map, length, take, Some, None, Ok, Err, filter, Option, Result}
use Rattle.refusal.specs.declared.Refusal.{Refusal}
use Rattle.deferral.specs.declared.deadlines.Deadlines.{Deadlines}
use Rattle.deferral.specs.declared.opened.Opened.{Opened}
use Rattle.deferral.specs.Deadlines.{day_of, opened, deadlines_for}
use Rattle.deferral.specs.Judged.{published}
use Rattle.report.specs.declared.line.Line.{Line}
use Rattle.report.specs.declared.line.Place.{Place}
use Rattle.report.specs.declared.report.Code.{Code}
use Rattle.report.specs.declared.report.Report.{Report}
use Rattle.report.specs.declared.security.Security.{Security}
use Rattle.report.specs.declared.state.Event.{Event}
use Rattle.report.specs.declared.state.Event.TheVariants.{Due, Withdrawn}
use Rattle.report.specs.declared.state.State.TheVariants.{Waiting}
use Rattle.report.specs.Published.{trade_of}
use Rattle.report.specs.States.{after}
use Rattle.rulebook.specs.declared.call.Call.{Call}
use Rattle.rulebook.specs.declared.call.Call.TheVariants.{List as Listing, Advance, Open, Enter, Amend, Cancel, CarryAway, Figures}
use Rattle.rulebook.specs.declared.record.Record.{Record}
use Rattle.rulebook.specs.Lists.{and_then}
use Rattle.rulebook.specs.Notebook.{Rules, Notebook, same_isin, same_code, security_of, record_of, among, latest, latest_day, next_code, no_place}
use Rattle.rulebook.specs.Lines.{due_now, due_lines, recall_lines}

-- a security is written over any of its ISIN, which keeps its place
abbrev pub with_security : Security → List Security → List Security
with_security s [] = s ∷ []
with_security s (x ∷ xs) = cond (same_isin x.isin s.isin) (s ∷ xs) (x ∷ with_security s xs)

-- the trade of a code changes
abbrev pub changed : Code → (Record → Record) → List Record → List Record
changed code f ts = map (λ t. cond (same_code t.code code) (f t) t) ts

-- a trade that meets an event, and the place of its line
abbrev pub met : Event → Place → Record → Record
met event place t =
    record {
      code = t.code;
      report = t.report;
      deadlines = t.deadlines;
      moment = t.moment;
      amended = t.amended;
      state = after t.state event;
      place = place;
    }

abbrev pub withdrawn : Record → Record
withdrawn t = met Withdrawn t.place t

-- these trades fall due one after another, the first with the line of that number
abbrev pub published_from : ℕ → ℕ → List Record → List Record → List Record
published_from day number [] ts = ts
published_from day number (d ∷ ds) ts =
    published_from day (number + 1) ds (changed d.code (met Due (record { day = day; number = number })) ts)

-- once the clock has reached its moment, a trade that waits is published for good
abbrev pub settled : Notebook → Notebook
settled nb =
    record {
      clock = nb.clock;
      securities = nb.securities;
      days = nb.days;
      records = published_from (latest_day nb.days) (nb.written + 1) (due_now nb) nb.records;
      written = nb.written + length (due_now nb);
    }

-- the trade of a code is published with the next line
abbrev pub one_published : Record → Notebook → Notebook
one_published t nb =
    record {
      clock = nb.clock;
      securities = nb.securities;
      days = nb.days;
      records = changed t.code (met Due (record { day = latest_day nb.days; number = nb.written + 1 })) nb.records;
      written = nb.written + 1;
    }

abbrev pub at_clock : ℕ → Notebook → Notebook
at_clock clock nb =
    record { clock = clock; securities = nb.securities; days = nb.days; records = nb.records; written = nb.written }

abbrev pub listed : Security → Notebook → Notebook
listed s nb =
    record {
      clock = nb.clock;
      securities = with_security s nb.securities;
      days = nb.days;
      records = nb.records;
      written = nb.written;
    }

-- the latest three days are held; a fourth strikes out the oldest with its trades
abbrev pub with_day : Opened → Notebook → Notebook
with_day o nb =
    record {
      clock = nb.clock;
      securities = nb.securities;
      days = take 3 (o ∷ nb.days);
      records = filter (λ t. among (take 3 (o ∷ nb.days)) t.code.day) nb.records;
      written = 0;
    }

abbrev pub day_opened : Result Opened Refusal → Notebook → Notebook
day_opened (Ok o) nb = with_day o nb
day_opened (Err r) nb = nb

abbrev pub added : Record → Notebook → Notebook
added t nb =
    record {
      clock = nb.clock;
      securities = nb.securities;
      days = nb.days;
      records = nb.records ++ t ∷ [];
      written = nb.written;
    }

-- the trade of a code is marked withdrawn
abbrev pub without : Code → Notebook → Notebook
without code nb =
    record {
      clock = nb.clock;
      securities = nb.securities;
      days = nb.days;
      records = changed code withdrawn nb.records;
      written = nb.written + length (recall_lines nb code);
    }

-- a new trade waits for the moment that clock, deadlines, schedule and security give it
abbrev pub fresh : Rules → Notebook → Bool → Deadlines → Report → Security → Record
fresh rules nb amended d r s =
    record {
      code = next_code nb;
      report = r;
      deadlines = d;
      moment = (published rules.tier d nb.clock (trade_of r s)).moment;
      amended = amended;
      state = Waiting;
      place = no_place;
    }

-- the new trade of an entry: its deadlines are those of its execution day
abbrev pub entered : Rules → Notebook → Report → Option Record
entered rules nb r =
    and_then (latest nb.days) (λ o.
    and_then (deadlines_for o nb.clock r.execution) (λ d.
    and_then (security_of nb r.isin) (λ s. Some (fresh rules nb false d r s))))

-- and of an amendment: its deadlines are those of the trade that it withdraws
abbrev pub amended : Rules → Notebook → Code → Report → Option Record
amended rules nb code r =
    and_then (record_of nb code) (λ t.
    and_then (security_of nb r.isin) (λ s. Some (fresh rules nb true t.deadlines r s)))

abbrev pub new_record : Rules → Notebook → Call → Option Record
new_record rules nb (Listing s) = None
new_record rules nb (Advance moment) = None
new_record rules nb Open = None
new_record rules nb (Enter r) = entered rules nb r
new_record rules nb (Amend code r) = amended rules nb code r
new_record rules nb (Cancel member code) = None
new_record rules nb (CarryAway room) = None
new_record rules nb (Figures isin day sheet) = None

abbrev pub with_new : Option Record → Notebook → Notebook
with_new None nb = nb
with_new (Some t) nb = added t nb

-- the notebook after a call that is taken, before what is due is published
abbrev pub noted : Rules → Notebook → Call → Notebook
noted rules nb (Listing s) = listed s nb
noted rules nb (Advance moment) = at_clock moment nb
noted rules nb Open = day_opened (opened rules.calendar (day_of nb.clock)) nb
noted rules nb (Enter r) = with_new (entered rules nb r) nb
noted rules nb (Amend code r) = with_new (amended rules nb code r) (without code nb)
noted rules nb (Cancel member code) = without code nb
noted rules nb (CarryAway room) = nb
noted rules nb (Figures isin day sheet) = nb

-- what is told of the trade that a call withdraws
abbrev pub withdrawal_lines : Notebook → Call → List Line
withdrawal_lines nb (Listing s) = []
withdrawal_lines nb (Advance moment) = []
withdrawal_lines nb Open = []
withdrawal_lines nb (Enter r) = []
withdrawal_lines nb (Amend code r) = recall_lines nb code
withdrawal_lines nb (Cancel member code) = recall_lines nb code
withdrawal_lines nb (CarryAway room) = []
withdrawal_lines nb (Figures isin day sheet) = []

-- the notebook after a call that is taken
abbrev pub after_call : Rules → Notebook → Call → Notebook
after_call rules nb call = settled (noted rules nb call)

-- the lines that it writes: first what is cancelled, then what is due
abbrev pub lines_of : Rules → Notebook → Call → List Line
lines_of rules nb call = withdrawal_lines nb call ++ due_lines (noted rules nb call)
