-- The lines of the tape.
use Rattle.std.specs.Prelude.{ℕ, ◌+◌, cond, List, [], ◌∷◌, filter}
use Rattle.report.specs.declared.line.Line.{Line}
use Rattle.report.specs.declared.line.Place.{Place}
use Rattle.report.specs.declared.line.Told.{Told}
use Rattle.report.specs.declared.line.Told.TheVariants.{Entr, Amnd, Canc}
use Rattle.report.specs.declared.report.Code.{Code}
use Rattle.rulebook.specs.declared.record.Record.{Record}
use Rattle.rulebook.specs.Lists.{in_order, where_some}
use Rattle.rulebook.specs.Notebook.{Notebook, record_of, latest_day, is_published, is_due, published_before, no_place}

-- a line repeats the trade's own fields
abbrev pub line_of : Told → Place → ℕ → Place → Record → Line
line_of told place moment recalled t =
    record {
      place = place;
      moment = moment;
      told = told;
      isin = t.report.isin;
      segment = t.report.segment;
      price = t.report.price;
      quantity = t.report.quantity;
      execution = t.report.execution;
      actx = t.report.actx;
      benc = t.report.benc;
      sdiv = t.report.sdiv;
      waiver = t.report.waiver;
      recalled = recalled;
    }

-- a trade that falls due is told as entered, or as amended where an amendment made it, with its publication moment
abbrev pub due_line : Place → Record → Line
due_line place t = line_of (cond t.amended Amnd Entr) place t.moment no_place t

-- a published trade that is withdrawn is told as cancelled, at the clock, with the line that is recalled
abbrev pub recall_line : Place → ℕ → Record → Line
recall_line place clock t = line_of Canc place clock t.place t

-- the trades that are due at the clock, in the order of their publication
abbrev pub due_now : Notebook → List Record
due_now nb = in_order published_before (filter (is_due nb.clock) nb.records)

-- lines carry the latest opened day, and go on with its numbers
abbrev pub place_at : Notebook → ℕ → Place
place_at nb number = record { day = latest_day nb.days; number = number }

abbrev pub told_from : ℕ → ℕ → List Record → List Line
told_from day number [] = []
told_from day number (t ∷ ts) = due_line (record { day = day; number = number }) t ∷ told_from day (number + 1) ts

-- what is told of the trades that are due
abbrev pub due_lines : Notebook → List Line
due_lines nb = told_from (latest_day nb.days) (nb.written + 1) (due_now nb)

-- what is told where the trade of a code is withdrawn: nothing where the market has not seen it
abbrev pub recalled : Notebook → Record → List Line
recalled nb t = cond (is_published t.state) (recall_line (place_at nb (nb.written + 1)) nb.clock t ∷ []) []

abbrev pub recall_lines : Notebook → Code → List Line
recall_lines nb code = where_some (record_of nb code) (recalled nb)
