use Rattle.trace_format.proofs.PartLemmas.{words_are_as_written}
use Rattle.trace_format.proofs.laws.words_are_as_written.Goals as goal

pub returns : goal.returns
returns c = words_are_as_written
