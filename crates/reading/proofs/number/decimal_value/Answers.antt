use Rattle.std.proofs.Common.{◌+◌, ◌*◌, get_or, arith}
use Rattle.std.proofs.lemmas.Bool.Decides.{nat_tests}
use Rattle.reading.specs.Number.{digit_of}
use Rattle.reading.proofs.Values.{value_more, value_all, value_ge}
use Rattle.reading.proofs.number.decimal_value.Goals as goal

pub returns-in_err-value : goal.returns-in_err-value
returns-in_err-value c =
    let word = c.args.word.now in
    let i = c.loop-byte.byte-index in
    let n = c.loop-byte.value * 10 + digit_of (get_or word i 0) in
    let next = value_more word i c.loop-byte.value c.loop-byte-test.true in
    let more = value_ge word (i + 1) n in
    grind (arith, nat_tests)

pub loop-byte-preserved : goal.loop-byte-preserved
loop-byte-preserved c =
    let next = value_more c.args.word.now c.loop-byte.byte-index c.loop-byte.value c.loop-byte-test.true in grind (arith, nat_tests)

pub returns : goal.returns
returns c =
    let all = value_all c.args.word.now c.loop-byte.byte-index c.loop-byte.value c.loop-byte-test.false in grind (arith, nat_tests)
