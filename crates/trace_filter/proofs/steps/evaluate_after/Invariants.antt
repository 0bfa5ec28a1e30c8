use Rattle.std.proofs.Common.{◌≡◌, [], map, drop}
use Rattle.trace_filter.specs.Steps.{move_of, state_of, evaluated, fresh, with_operand}
use Rattle.trace_filter.proofs.steps.evaluate_after.Given as goal

abbrev pub invariant-loop-step : goal.invariant-loop-step
invariant-loop-step l =
    evaluated l.emission (state_of l.frames) (map move_of (drop l.step-index l.steps))
    ≡ evaluated l.emission (record { frame = with_operand fresh l.all; outer = [] }) (map move_of l.steps)
