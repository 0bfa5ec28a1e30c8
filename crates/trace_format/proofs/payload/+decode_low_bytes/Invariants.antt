use Rattle.std.proofs.Common.{length}
use Rattle.trace_format.proofs.payload.+decode_low_bytes.Given as goal

abbrev pub decreases-decode_low_bytes : goal.decreases-decode_low_bytes
decreases-decode_low_bytes l = length l.bytes.now
