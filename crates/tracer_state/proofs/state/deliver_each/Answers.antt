use Rattle.std.proofs.Common.{arith, refl, ◌∙◌, length-set, get_or-set_other, ◌≢◌}
use Rattle.trace_instance.specs.Deliveries.{IsDelivered}
use Rattle.tracer_state.specs.States.{reach_at}
use Rattle.tracer_state.proofs.EachInstance.{came_more, names_more}
use Rattle.tracer_state.proofs.state.deliver_each.Goals as goal

pub loop-i-preserved : goal.loop-i-preserved
loop-i-preserved c =
    let was = c.loop-i.invariant in
    let d = c.args.delivery.now in
    let read = c.index-instances-i.result in record {
      many = length-set _ _ _ ∙ was.many;
      names = names_more c.args.instances.now c.loop-i.instances c.loop-i.i read _ (omega arith) refl was.names;
      came = came_more (λ k. IsDelivered d (reach_at d.reaches k)) c.args.instances.now c.loop-i.instances c.loop-i.i read _ (omega arith)
          c.deliver.ensures was.came was.left;
      left = λ k d above. let other : k ≢ c.loop-i.i = omega arith in rw get_or-set_other (was.left k d (omega arith));
    }

pub deliver-requires-clause-passed : goal.deliver-requires-clause-passed
deliver-requires-clause-passed c =
    let was = c.loop-i.invariant in
    let read = c.index-instances-i.result in
    rw (was.left c.loop-i.i read (omega arith)) (c.requires.passed c.loop-i.i read (omega (arith, was.many)))
