use Rattle.trace_script.proofs.LineLaws.{line_asks, line_read}
use Rattle.trace_script.proofs.line.lines_are_as_written.Goals as goal

pub returns-clause-written : goal.returns-clause-written
returns-clause-written c = line_asks

pub returns-clause-read : goal.returns-clause-read
returns-clause-read c = line_read
