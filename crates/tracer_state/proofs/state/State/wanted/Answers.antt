use Rattle.std.proofs.Common.{◌≡◌, ℕ, Bool, ◌∙◌, sym, arith}
use Rattle.tracer_state.specs.WantedMasks.{is_wanted}
use Rattle.tracer_state.proofs.WantedMasks.{mask-left, mask-set, mask-told}
use Rattle.tracer_state.proofs.state.State.wanted.Goals as goal
use Rattle.tracer_state.proofs.state.State.wanted.Goals.{then-is_wanted, else-is_wanted}

pub loop-event-preserved : goal.loop-event-preserved
loop-event-preserved c =
    let test : ℕ → Bool = is_wanted c.args.self.now.instances.items in
    let told : c.is_wanted.result ≡ is_wanted c.deref.result.now c.loop-event.event = c.is_wanted.ensures in
    let here : c.is_wanted.result ≡ test c.loop-event.event = rw (sym c.deref.ensures.value) told in
    elim c.if-is_wanted.branch [
      | then-is_wanted w ↦ rw w.mask-is (mask-set test _ _ (omega arith) (sym here ∙ w.if-is_wanted.true) c.loop-event.invariant)
      | else-is_wanted w ↦ rw w.mask-is (mask-left test _ _ (sym here ∙ w.if-is_wanted.false) c.loop-event.invariant)
    ]

pub returns : goal.returns
returns c = mask-told (is_wanted c.args.self.now.instances.items) c.loop-event.event c.loop-event.mask (omega arith) c.loop-event.invariant
