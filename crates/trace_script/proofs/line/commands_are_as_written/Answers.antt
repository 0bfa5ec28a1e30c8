use Rattle.trace_script.proofs.CommandLaws.{tokens_found, tokens_read}
use Rattle.trace_script.proofs.line.commands_are_as_written.Goals as goal

pub returns-clause-written : goal.returns-clause-written
returns-clause-written c = tokens_found

pub returns-clause-read : goal.returns-clause-read
returns-clause-read c = tokens_read
