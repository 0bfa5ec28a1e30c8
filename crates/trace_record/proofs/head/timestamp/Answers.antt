use Rattle.trace_record.specs.Record.{timestamp}
use Rattle.trace_record.proofs.head.timestamp.Goals as goal

pub returns : goal.returns
unfolding timestamp
returns c = c.from_le_bytes.ensures
