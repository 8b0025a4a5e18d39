use Rattle.std.proofs.Common.{rules, [], ◌∷◌, ◌&&◌}
use Rattle.report.specs.Judged.{waiver_grounds, as_agent}
use Rattle.refusal.specs.declared.Refusal.TheVariants.{RisklessPrincipalAsAgent}
use Rattle.report.proofs.Refused.{refused_first}
use Rattle.report.proofs.judgement.check_late.Goals as goal

pub returns-in_err-check_waiver : goal.returns-in_err-check_waiver
returns-in_err-check_waiver c =
    search (rules, refused_first (tt {0}) c.in_err-check_waiver.field-0.0 (waiver_grounds c.args.report.now.waiver c.args.security.now) (record { there = c.args.report.now.flags.rp && as_agent c.args.report.now.capacity; refusal = RisklessPrincipalAsAgent } ∷ []))
