use Rattle.std.proofs.Common.{ltb-false, ltb-true, arith}
use Rattle.std.proofs.lemmas.Grind.{common_steps}
use Rattle.reading.specs.Request.{request_read}
use Rattle.reading.proofs.Requests.{no_word, one_word, two_words, three_words, many_words}
use Rattle.reading.proofs.request.read_request.Goals as goal

pub returns-in-empty : goal.returns-in-empty
unfolding request_read
returns-in-empty c = rw (no_word c.args.words.now (omega (arith, ltb-true, ltb-false))) (grind (arith, common_steps))

pub returns-in-len1 : goal.returns-in-len1
unfolding request_read
returns-in-len1 c = rw (one_word c.args.words.now _ (omega (arith, ltb-true, ltb-false)) c.word-item.is) (grind (arith, common_steps))

pub returns-in-len2 : goal.returns-in-len2
unfolding request_read
returns-in-len2 c =
    rw (two_words c.args.words.now _ _ (omega (arith, ltb-true, ltb-false)) c.year-item.is c.mark-item.is) (grind (arith, common_steps))

pub returns-in-len3 : goal.returns-in-len3
unfolding request_read
returns-in-len3 c =
    rw (three_words c.args.words.now _ _ _ (omega (arith, ltb-true, ltb-false)) c.first-item.is c.last-item.is c.mark-item-then-words-lt4.is) (grind (arith, common_steps))

pub returns-in_default : goal.returns-in_default
returns-in_default c = many_words _ c.args.words.now (omega (arith, ltb-true, ltb-false))
