use Rattle.trace_script.proofs.CommandLemmas.{write_written, write_read}
use Rattle.trace_script.proofs.command.writes_are_as_written.Goals as goal

pub returns-clause-written : goal.returns-clause-written
returns-clause-written c = write_written

pub returns-clause-read : goal.returns-clause-read
returns-clause-read c = write_read
