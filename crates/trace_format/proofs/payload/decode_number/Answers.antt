use Rattle.std.proofs.Common.{arith}
use Rattle.std.proofs.lemmas.Grind.{common_steps}
use Rattle.trace_format.proofs.payload.decode_number.Goals as goal

pub overflow_sub-result : goal.overflow_sub-result
overflow_sub-result c = grind (arith, common_steps)

pub returns-then-pattern-end : goal.returns-then-pattern-end
returns-then-pattern-end c = grind (arith, common_steps)

pub returns-else-is_signed : goal.returns-else-is_signed
returns-else-is_signed c = grind (arith, common_steps)
