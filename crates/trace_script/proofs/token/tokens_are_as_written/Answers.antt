use Rattle.trace_script.proofs.GrammarLaws.{line_written, written_read}
use Rattle.trace_script.proofs.token.tokens_are_as_written.Goals as goal

pub returns-clause-written : goal.returns-clause-written
returns-clause-written c = line_written

pub returns-clause-read : goal.returns-clause-read
returns-clause-read c = written_read
