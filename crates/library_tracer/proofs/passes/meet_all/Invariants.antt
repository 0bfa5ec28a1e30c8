use Rattle.library_tracer.specs.Tiled.{IsMeeting}
use Rattle.library_tracer.proofs.passes.meet_all.Given as goal

abbrev pub invariant-loop-caller : goal.invariant-loop-caller
invariant-loop-caller l = IsMeeting l.tracer l.fn.callers.items l.met l.caller-iterator.rest.items
