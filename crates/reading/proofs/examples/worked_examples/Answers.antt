use Rattle.std.proofs.Common.{rules}
use Rattle.reading.specs.Examples.{Examples}
use Rattle.reading.specs.Laws.{Laws}
use Rattle.reading.specs.Line.{line_read}
use Rattle.reading.specs.Request.{request_read}
use Rattle.reading.specs.Words.{words_of}
use Rattle.std.proofs.lemmas.List.Splits.{join_with_byte-slice_split}
use Rattle.reading.proofs.Joined.{words_solid}
use Rattle.reading.proofs.Spelling.{written_is_read, read_is_written}
use Rattle.reading.proofs.examples.worked_examples.Goals as goal

examples_hold : Examples
unfolding words_of line_read request_read
examples_hold = search rules

laws_hold : Laws
unfolding words_of
laws_hold = record {
  written_is_read = written_is_read;
  read_is_written = read_is_written;
  words_joined = join_with_byte-slice_split 32;
  words_solid = words_solid;
}

pub returns : goal.returns
returns c = record { examples = examples_hold; laws = laws_hold }
