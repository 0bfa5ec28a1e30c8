use Rattle.std.proofs.Common.{◌≡◌, [], map, drop}
use Rattle.trace_filter.specs.Steps.{move_of, evaluated, at_start, fresh, with_operand}
use Rattle.trace_filter.proofs.steps.evaluate.Given as goal

-- what is left of the steps, after factors that all hold or not, is what the whole is
abbrev pub invariant-loop-i : goal.invariant-loop-i
invariant-loop-i l =
    evaluated l.emission (record { frame = with_operand fresh l.all; outer = [] }) (map move_of (drop l.i l.steps))
    ≡ evaluated l.emission at_start (map move_of l.steps)
