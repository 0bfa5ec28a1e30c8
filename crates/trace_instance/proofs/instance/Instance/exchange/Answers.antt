use Rattle.std.proofs.Common.{refl, rules}
use Rattle.trace_instance.specs.declared.event.InstanceEvent.{InstanceEvent}
use Rattle.trace_instance.proofs.EachEvent.{counted, still}
use Rattle.trace_instance.proofs.instance.Instance.exchange.Goals as goal

pub returns : goal.returns
returns c =
    let events = c.self.inside.events.items in
    let one = c.index_mut.result.now in
    let new = record one { triggers = c.count_snapshot_down.new.self } in
    let is = c.index_mut.ensures.value in
    let after = c.count_snapshot_down.ensures in
    rw (
      still (λ (e : InstanceEvent). e.enabled) events c.args.event one new is refl,
      still (λ (e : InstanceEvent). e.filter) events c.args.event one new is refl,
      still (λ (e : InstanceEvent). e.triggers.hists) events c.args.event one new is after.hists,
      counted c.args.self.now c.self.inside c.args.event one c.count_snapshot_down.new.self c.self.view_is c.requires.event is after.snapshot,
    ) (search rules)
