-- The figures of a security's day, counted afresh from the notebook.
use Rattle.std.specs.Prelude.{ℕ, ◌*◌, Bool, ◌&&◌, ◌||◌, List, length, sum_by, filter, Option, ◌==◌, nat_lt}
use Rattle.std.specs.Option.{option_map}
use Rattle.identifier.specs.declared.isin.Isin.{Isin}
use Rattle.report.specs.declared.figures.Figures.{Figures}
use Rattle.report.specs.declared.figures.Sheet.{Sheet}
use Rattle.report.specs.declared.figures.Sheet.TheVariants.{Full, Public}
use Rattle.report.specs.declared.state.State.{State}
use Rattle.report.specs.Published.{makes_prices}
use Rattle.report.specs.States.{survives}
use Rattle.rulebook.specs.declared.record.Record.{Record}
use Rattle.rulebook.specs.Lists.{first_by}
use Rattle.rulebook.specs.Notebook.{Notebook, same_isin, of_day, is_published}

-- the full sheet counts what survives, the public one what of it is published
abbrev pub counts : Sheet → State → Bool
counts Full state = survives state
counts Public state = is_published state

abbrev pub on_sheet : Isin → ℕ → Sheet → Record → Bool
on_sheet isin day sheet t = same_isin t.report.isin isin && (of_day day t && counts sheet t.state)

-- the trades that a sheet counts
abbrev pub counted : Notebook → Isin → ℕ → Sheet → List Record
counted nb isin day sheet = filter (on_sheet isin day sheet) nb.records

abbrev pub price_of : Option Record → Option ℕ
price_of o = option_map (λ t. t.report.price) o

abbrev pub executed_before : Record → Record → Bool
executed_before t u =
    nat_lt t.report.execution u.report.execution
    || (t.report.execution == u.report.execution && nat_lt t.code.serial u.code.serial)

abbrev pub cheaper : Record → Record → Bool
cheaper t u = nat_lt t.report.price u.report.price

-- the trades that make prices
abbrev pub priced : List Record → List Record
priced ts = filter (λ t. makes_prices t.report) ts

abbrev pub figures_of : List Record → Figures
figures_of ts =
    record {
      number = length ts;
      volume = sum_by (λ t. t.report.quantity) ts;
      turnover = sum_by (λ t. t.report.price * t.report.quantity) ts;
      opening = price_of (first_by executed_before (priced ts));
      high = price_of (first_by (λ t u. cheaper u t) (priced ts));
      low = price_of (first_by cheaper (priced ts));
      last = price_of (first_by (λ t u. executed_before u t) (priced ts));
    }

abbrev pub sheet_of : Notebook → Isin → ℕ → Sheet → Figures
sheet_of nb isin day sheet = figures_of (counted nb isin day sheet)
