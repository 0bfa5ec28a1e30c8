use Rattle.trace_record.proofs.HeadBytes.{timestamp_is_heads}
use Rattle.trace_record.proofs.laws.timestamp_is_heads.Goals as goal

pub returns : goal.returns
returns c = timestamp_is_heads
