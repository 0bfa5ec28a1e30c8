use Rattle.trace_format.proofs.OperandLemmas.{operand_by_name}
use Rattle.trace_format.proofs.laws.operands_are_by_name.Goals as goal

pub returns : goal.returns
returns c = operand_by_name
