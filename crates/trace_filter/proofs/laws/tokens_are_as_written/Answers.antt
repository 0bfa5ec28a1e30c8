use Rattle.trace_filter.proofs.TokenGrammarLaws.{tokens_are_as_written}
use Rattle.trace_filter.proofs.laws.tokens_are_as_written.Goals as goal

pub returns : goal.returns
returns c = tokens_are_as_written
