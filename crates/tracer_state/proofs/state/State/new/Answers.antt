use Rattle.std.proofs.Common.{None, refl, arith, rules}
use Rattle.tracer_state.specs.declared.state.Named.{Named}
use Rattle.trace_instance.proofs.NewInstance.{top_instance_stands}
use Rattle.tracer_state.proofs.Usable.{stands_new}
use Rattle.tracer_state.proofs.state.State.new.Goals as goal

pub returns : goal.returns
returns c =
    let i = c.in_ok-instance.instance in
    let top : Named = record { name = None; instance = i } in
    stands_new c.args.config.now _ top c.new-2.ensures refl c.in_ok-instances.ensures.items refl
    (top_instance_stands c.args.config.now i (search rules)) (omega (arith, c.in_ok-plans.ensures.len, c.in_ok-plans.plans.ok.0))
