use Rattle.trace_filter.proofs.GlobGrammarLaws.{globs_are_as_written}
use Rattle.trace_filter.proofs.laws.globs_are_as_written.Goals as goal

pub returns : goal.returns
returns c = globs_are_as_written
