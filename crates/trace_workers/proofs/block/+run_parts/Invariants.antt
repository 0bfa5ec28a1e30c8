use Rattle.std.proofs.Common.{vec_len}
use Rattle.trace_workers.proofs.block.+run_parts.Given as goal

-- each call has one part less
abbrev pub decreases-run_parts : goal.decreases-run_parts
decreases-run_parts g l = vec_len l.parts
