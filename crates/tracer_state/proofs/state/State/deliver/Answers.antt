use Rattle.std.proofs.Common.{refl}
use Rattle.tracer_state.proofs.Idle.{undelivered-each}
use Rattle.tracer_state.proofs.state.State.deliver.Goals as goal

pub deliver_each-requires-clause-record : goal.deliver_each-requires-clause-record
deliver_each-requires-clause-record c = rw c.deref_mut.ensures.value c.requires.ready.1

pub returns-else-delivery : goal.returns-else-delivery
returns-else-delivery c = (
  refl,
  refl,
  undelivered-each c.args.delivery.now c.args.self.now.instances.items c.if-delivery.false c.requires.ready.3,
  refl,
)
