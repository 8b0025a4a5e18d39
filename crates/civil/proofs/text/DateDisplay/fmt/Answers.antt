use Rattle.std.proofs.Common.{◌-◌, ◌^◌, ◌∷◌, ◌++◌, ap, ◌∙◌, subst, arith}
use Rattle.std.specs.Fmt.{HasWritten, decimal, format_spec, styled_decimal}
use Rattle.civil.proofs.TwoDigits.{date_written}
use Rattle.civil.proofs.text.DateDisplay.fmt.Goals as goal

pub returns-clause-writes : goal.returns-clause-writes
returns-clause-writes g c = λ plain ok.
    let t = c.args.self.now in
    let m = c.number-month.result in
    let text =
    ap (λ s. decimal t.year ++ 45 ∷ (styled_decimal s m ++ 45 ∷ styled_decimal c.laid_out-2.result t.day)) c.laid_out.ensures
    ∙ ap (λ s. decimal t.year ++ 45 ∷ (styled_decimal (format_spec 32 0 4 2 (2 ^ 64 - 1)) m ++ 45 ∷ styled_decimal s t.day)) c.laid_out-2.ensures
    ∙ date_written t m (omega arith) (omega arith) c.number-month.ensures in
    subst (λ bs. HasWritten {W = g.row.W.Denot} g.W.Write.write_str_gives c.args.f.now bs c.write.new.self) text (c.write.ensures.writes plain ok)
