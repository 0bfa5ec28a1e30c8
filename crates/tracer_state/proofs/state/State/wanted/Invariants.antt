use Rattle.tracer_state.specs.WantedMasks.{is_wanted}
use Rattle.tracer_state.proofs.WantedMasks.{IsMaskBelow}
use Rattle.tracer_state.proofs.state.State.wanted.Given as goal

abbrev pub invariant-loop-event : goal.invariant-loop-event
invariant-loop-event l = IsMaskBelow (is_wanted l.fn.self.instances.items) l.event l.mask
