-- The worked example: two trades of one equity on 8 May 2018, of which the market sees one at once.
use Rattle.std.specs.Prelude.{◌≡◌, ℕ, true, false, [], ◌∷◌, ◌++◌, Some, None, Ok, codes, Result}
use Rattle.refusal.specs.declared.Refusal.{Refusal}
use Rattle.civil.specs.Dates.{day_number}
use Rattle.civil.specs.declared.month.Month.TheVariants.{May}
use Rattle.identifier.specs.declared.counterparty.Counterparty.TheVariants.{Lei}
use Rattle.identifier.specs.declared.isin.Isin.{Isin}
use Rattle.identifier.specs.declared.member.Member.{Member}
use Rattle.calendar.specs.Meaning.{Meaning}
use Rattle.deferral.specs.declared.question.Class.TheVariants.{Equity}
use Rattle.deferral.specs.Annex.{annex_two}
use Rattle.deferral.specs.Examples.{on_8_may}
use Rattle.report.specs.declared.figures.Figures.{Figures}
use Rattle.report.specs.declared.figures.Sheet.TheVariants.{Full, Public}
use Rattle.report.specs.declared.line.Line.{Line}
use Rattle.report.specs.declared.line.Told.TheVariants.{Entr}
use Rattle.report.specs.declared.report.Capacity.TheVariants.{Deal}
use Rattle.report.specs.declared.report.Code.{Code}
use Rattle.report.specs.declared.report.Report.{Report}
use Rattle.report.specs.declared.report.Side.TheVariants.{Buy}
use Rattle.report.specs.declared.security.Security.{Security}
use Rattle.report.specs.declared.security.Segment.TheVariants.{Xmsm}
use Rattle.rulebook.specs.declared.call.Answer.{Answer}
use Rattle.rulebook.specs.declared.call.Answer.TheVariants.{Taken, Advanced}
use Rattle.rulebook.specs.declared.call.Call.TheVariants.{List as Listing, Advance, Open, Enter}
use Rattle.rulebook.specs.Notebook.{Rules, no_place}
use Rattle.rulebook.specs.Sheets.{sheet_of}
use Rattle.rulebook.specs.Answers.{answer_to}
use Rattle.rulebook.specs.Histories.{History, taking, Lawful, desk_after, notebook_after, tape}

-- a small book under the schedule of Annex II
abbrev pub book : Meaning → Rules
book m = record { sizes = record { records = 8; securities = 2; lines = 8; expand = 2 }; calendar = m; tier = annex_two }

abbrev pub the_day : ℕ
the_day = day_number 2018 May 8

abbrev pub code : ℕ → Code
code serial = record { day = the_day; serial = serial }

abbrev pub the_isin : Isin
the_isin = record { bytes = codes "IE0000000004" }

abbrev pub the_member : Member
the_member = record { bytes = codes "FIRM1" }

-- an equity with an average daily turnover of 80,000 EUR
abbrev pub the_equity : Security
the_equity =
    record {
      isin = the_isin;
      segment = Xmsm;
      class = Equity;
      daily = 80000;
      liquid = true;
      nliq_suspended = false;
      suspended = false;
      reference = 124000;
      tolerance = 2000;
      cap = 5000;
    }

-- a report of a trade of that price and quantity, dealt at 09:00:00 without any marks
abbrev pub dealt : ℕ → ℕ → Report
dealt price quantity =
    record {
      member = the_member;
      isin = the_isin;
      segment = Xmsm;
      side = Buy;
      price = price;
      quantity = quantity;
      execution = on_8_may 9 0 0;
      capacity = Deal;
      nodef = false;
      actx = false;
      benc = false;
      sdiv = false;
      waiver = None;
      flags = record { ah = false; bb = false; cp = false; lt = false; rp = false; ss = false };
      counterparty = Lei (codes "0000000000000000A089");
    }

-- the equity is listed, the day is opened, and the clock shows 09:00:30
abbrev pub morning : History
morning = taking (Listing the_equity) ∷ taking (Advance (on_8_may 9 0 30)) ∷ taking Open ∷ []

abbrev pub first_trade : Report
first_trade = dealt 123400 1000

abbrev pub second_trade : Report
second_trade = dealt 125000 2000

abbrev pub one_trade : History
one_trade = morning ++ taking (Enter first_trade) ∷ []

abbrev pub two_trades : History
two_trades = one_trade ++ taking (Enter second_trade) ∷ []

-- taken with that serial, to be seen at that moment, without a warning
abbrev pub taken_as : ℕ → ℕ → Result Answer Refusal
taken_as serial moment = Ok (Taken (record { code = code serial; moment = moment; warnings = record { price = false; quantity = false } }))

-- the one line of the tape tells of the first trade
abbrev pub the_line : Line
the_line =
    record {
      place = record { day = the_day; number = 1 };
      moment = on_8_may 9 0 30;
      told = Entr;
      isin = the_isin;
      segment = Xmsm;
      price = 123400;
      quantity = 1000;
      execution = on_8_may 9 0 0;
      actx = false;
      benc = false;
      sdiv = false;
      waiver = None;
      recalled = no_place;
    }

abbrev pub seen : Figures
seen =
    record { number = 1; volume = 1000; turnover = 123400000; opening = Some 123400; high = Some 123400; low = Some 123400; last = Some 123400 }

abbrev pub all : Figures
all =
    record { number = 2; volume = 3000; turnover = 373400000; opening = Some 123400; high = Some 125000; low = Some 123400; last = Some 125000 }

pub record WorkedExample (m : Meaning) : Type 0 where
  pub lawful : Lawful (book m) two_trades
  -- the first is seen at the clock, the second an hour after its execution
  pub first : answer_to (book m) (desk_after (book m) morning) (Enter first_trade) ≡ taken_as 1 (on_8_may 9 0 30)
  pub second : answer_to (book m) (desk_after (book m) one_trade) (Enter second_trade) ≡ taken_as 2 (on_8_may 10 0 0)
  pub public_sheet : sheet_of (notebook_after (book m) two_trades) the_isin the_day Public ≡ seen
  pub full_sheet : sheet_of (notebook_after (book m) two_trades) the_isin the_day Full ≡ all
  pub one_line : tape (book m) two_trades ≡ the_line ∷ []
  -- the second waits to 10:00:00, when it joins the first on the public sheet
  pub waits : answer_to (book m) (desk_after (book m) two_trades) (Advance (on_8_may 9 59 59)) ≡ Ok (Advanced 0)
  pub falls_due : answer_to (book m) (desk_after (book m) two_trades) (Advance (on_8_may 10 0 0)) ≡ Ok (Advanced 1)
  pub then_seen : sheet_of (notebook_after (book m) (two_trades ++ taking (Advance (on_8_may 10 0 0)) ∷ [])) the_isin the_day Public ≡ all
