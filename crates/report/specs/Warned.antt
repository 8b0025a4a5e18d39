-- The two warnings that a report may draw.
use Rattle.std.specs.Prelude.{ℕ, ◌+◌, ◌-◌, ◌*◌, Bool, cond, not, ◌&&◌, ◌||◌, ◌==◌, nat_lt}
use Rattle.report.specs.declared.report.Report.{Report}
use Rattle.report.specs.declared.security.Security.{Security}
use Rattle.report.specs.declared.warnings.Warnings.{Warnings}
use Rattle.report.specs.Judged.{waiver_number}

-- the waiver PRIC multiplies the tolerance by the expand factor
abbrev pub tolerated : Report → Security → ℕ → ℕ
tolerated r s expand = s.tolerance * cond (waiver_number r.waiver == 3) expand 1

-- a price warns outside the reference plus or minus the tolerance, where there is a reference
abbrev pub price_warns : Report → Security → ℕ → Bool
price_warns r s expand =
    not (s.reference == 0)
    && (nat_lt r.price (s.reference - tolerated r s expand) || nat_lt (s.reference + tolerated r s expand) r.price)

abbrev pub warned : Report → Security → ℕ → Warnings
warned r s expand = record { price = price_warns r s expand; quantity = nat_lt s.cap r.quantity }
