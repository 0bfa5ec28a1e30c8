use Rattle.std.proofs.Common.{◌≡◌, ℕ, ◌<◌, ◌≤◌, false, List, length, get_or, arith}
use Rattle.trace_format.specs.Operands.{Emission}
use Rattle.trace_instance.specs.declared.plan.Plan.TheVariants.{Nothing}
use Rattle.tracer_state.specs.EventPlans.{IsPlanOf}
use Rattle.tracer_state.specs.States.{reach_at}
use Rattle.tracer_state.specs.declared.plan.EventPlan.{EventPlan}
use Rattle.tracer_state.specs.declared.state.Named.{Named}
use Rattle.tracer_state.proofs.PlannedReach.{IsQuiet, planned-unasked}
use Rattle.tracer_state.proofs.reach.reach_planned.Goals as goal

-- what is kept of an event is what an emission does, where no instance is asked
kept-reach : (event : ℕ) (kept : EventPlan) (instances : List Named) (emission : Emission) → IsPlanOf event kept instances → kept.asks ≡ false
    → length instances ≤ 8 → (k : ℕ) (n : Named) → k < length instances
    → IsQuiet (get_or instances k n).instance event emission (reach_at kept.reaches k)
kept-reach event kept instances emission is off few k n inside =
    let small : k < 8 = omega (arith, inside, few) in
    planned-unasked (get_or instances k n).instance event emission (get_or kept.each k Nothing) (reach_at kept.reaches k) (is.each k inside small n)
    (is.asks off k inside small) (is.reaches k inside small)

pub returns-then-not-plan-clause-reached : goal.returns-then-not-plan-clause-reached
returns-then-not-plan-clause-reached c =
    let few = c.requires.few in record {
      each = λ k n inside. (kept-reach c.args.event c.args.plan.now c.args.instances.now c.args.emission c.requires.planned
          c.if-not-plan.true few k n inside).reach;
      none = λ off k n inside. c.requires.planned.recorded off k inside (omega (arith, inside, few));
    }

pub returns-then-not-plan-clause-quiet : goal.returns-then-not-plan-clause-quiet
returns-then-not-plan-clause-quiet c = λ off k n inside.
    let is = kept-reach c.args.event c.args.plan.now c.args.instances.now c.args.emission c.requires.planned c.if-not-plan.true
    c.requires.few k n inside in
    (is.snapshot_fires, is.hists)
