use Rattle.std.proofs.Common.{◌≡◌, ◌-◌, ◌≤◌, ◌++◌, false, length, map, drop}
use Rattle.trace_filter.specs.declared.token.Comparison.TheVariants as comparisons
use Rattle.trace_format.specs.declared.operand.Operand.TheVariants as operands
use Rattle.trace_filter.specs.Tokens.{spots_from, tokens_of}
use Rattle.trace_filter.specs.Subjects.{first_fault}
use Rattle.trace_filter.specs.Steps.{move_of, moves_from}
use Rattle.trace_filter.proofs.steps.compile.Given as goal

-- what is left of the text has the first fault of the whole, and the steps that are left
abbrev pub invariant-loop-spot : goal.invariant-loop-spot
invariant-loop-spot l = record {
  within : l.from ≤ length l.text;
  fault : first_fault l.fields l.compiler.subject (spots_from l.value_due 0 l.from (drop l.from l.text)) ≡ first_fault l.fields operands.Pid (spots_from false 0 0 l.text);
  steps : map move_of l.compiler.steps.items ++ moves_from l.fields l.compiler.subject l.compiler.comparison (tokens_of (spots_from l.value_due 0 l.from (drop l.from l.text))) ≡ moves_from l.fields operands.Pid comparisons.Eq (tokens_of (spots_from false 0 0 l.text));
}

abbrev pub decreases-loop-spot : goal.decreases-loop-spot
decreases-loop-spot l = length l.text - l.from
