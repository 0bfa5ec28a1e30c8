use Rattle.std.proofs.Common.{◌≡◌, max, drop}
use Rattle.trace_script.specs.private.Bytes.{highest_rank}
use Rattle.trace_script.proofs.bytes.highest_of.Given as goal

abbrev pub invariant-loop-byte : goal.invariant-loop-byte
invariant-loop-byte l = max l.highest (highest_rank (drop l.byte-index l.bytes)) ≡ highest_rank l.bytes
