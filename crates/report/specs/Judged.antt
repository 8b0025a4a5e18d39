-- The grounds against a report that need only the report and its security.
use Rattle.std.specs.Prelude.{ℕ, ◌+◌, Bool, true, false, cond, not, ◌&&◌, List, [], ◌∷◌, ◌++◌, Some, None, Option, ◌==◌, nat_lt}
use Rattle.refusal.specs.declared.Refusal.TheVariants.{Suspended, OtherSegment, TooManyFlags, WrongCounterparty, NegotiatedNotLiquid, NegotiatedSuspended, IlliquidButLiquid, RisklessPrincipalAsAgent}
use Rattle.refusal.specs.Grounds.{Ground}
use Rattle.identifier.specs.Counterparty.{is_right}
use Rattle.deferral.specs.Judged.{size_ground, turnover_ground}
use Rattle.report.specs.declared.report.Capacity.{Capacity}
use Rattle.report.specs.declared.report.Capacity.TheVariants.{Deal, Aotc}
use Rattle.report.specs.declared.report.Flags.{Flags}
use Rattle.report.specs.declared.report.Report.{Report}
use Rattle.report.specs.declared.report.Waiver.{Waiver}
use Rattle.report.specs.declared.report.Waiver.TheVariants.{Nliq, Oilq, Pric, Lis}
use Rattle.report.specs.declared.security.Security.{Security}
use Rattle.report.specs.declared.security.Segment.{Segment}
use Rattle.report.specs.declared.security.Segment.TheVariants.{Xmsm, Xesm, Xatl}

-- the segments, by their place in the list of segments
abbrev pub segment_number : Segment → ℕ
segment_number Xmsm = 0
segment_number Xesm = 1
segment_number Xatl = 2

-- the waivers, by their place in the list of waivers; none is 0
abbrev pub waiver_number : Option Waiver → ℕ
waiver_number None = 0
waiver_number (Some Nliq) = 1
waiver_number (Some Oilq) = 2
waiver_number (Some Pric) = 3
waiver_number (Some Lis) = 4

abbrev pub as_agent : Capacity → Bool
as_agent Deal = false
as_agent Aotc = true

abbrev pub one_if : Bool → ℕ
one_if b = cond b 1 0

-- how many of the six flags are set
abbrev pub flags_set : Flags → ℕ
flags_set f = one_if f.ah + one_if f.bb + one_if f.cp + one_if f.lt + one_if f.rp + one_if f.ss

-- the grounds that stand before the execution's
abbrev pub early_grounds : Report → Security → List Ground
early_grounds r s =
    record { there = s.suspended; refusal = Suspended }
    ∷ record { there = not (segment_number r.segment == segment_number s.segment); refusal = OtherSegment }
    ∷ size_ground r.price r.quantity ∷ turnover_ground r.price r.quantity ∷ []

-- the grounds against a waiver
abbrev pub waiver_grounds : Option Waiver → Security → List Ground
waiver_grounds w s =
    record { there = waiver_number w == 1 && not s.liquid; refusal = NegotiatedNotLiquid }
    ∷ record { there = waiver_number w == 1 && s.nliq_suspended; refusal = NegotiatedSuspended }
    ∷ record { there = waiver_number w == 2 && s.liquid; refusal = IlliquidButLiquid } ∷ []

-- and those that stand behind it
abbrev pub late_grounds : Report → Security → List Ground
late_grounds r s =
    record { there = nat_lt 3 (flags_set r.flags); refusal = TooManyFlags }
    ∷ record { there = not (is_right r.counterparty); refusal = WrongCounterparty }
    ∷ waiver_grounds r.waiver s
    ++ record { there = r.flags.rp && as_agent r.capacity; refusal = RisklessPrincipalAsAgent } ∷ []
