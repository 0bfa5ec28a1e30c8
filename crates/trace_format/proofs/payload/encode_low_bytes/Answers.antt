use Rattle.std.proofs.Common.{arith}
use Rattle.trace_format.proofs.Patterns.{written_more}
use Rattle.trace_format.proofs.payload.encode_low_bytes.Goals as goal

pub loop-byte-preserved : goal.loop-byte-preserved
loop-byte-preserved c = written_more c.loop-byte.out c.loop-byte.byte-index c.loop-byte.left _ (omega arith) c.loop-byte.invariant
