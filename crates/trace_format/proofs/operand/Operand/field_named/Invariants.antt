use Rattle.std.proofs.Common.{◌≡◌, drop}
use Rattle.trace_format.specs.Operands.{operand_from}
use Rattle.trace_format.proofs.operand.Operand.field_named.Given as goal

abbrev pub invariant-loop-index : goal.invariant-loop-index
invariant-loop-index l = operand_from l.index (drop l.index l.fields) l.name ≡ operand_from 0 l.fields l.name
