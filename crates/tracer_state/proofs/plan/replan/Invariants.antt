use Rattle.std.proofs.Common.{◌≡◌, ℕ, ◌<◌, ◌≤◌, length, slice_index_or}
use Rattle.tracer_state.specs.EventPlans.{IsPlanOf}
use Rattle.tracer_state.specs.declared.plan.EventPlan.{EventPlan}
use Rattle.tracer_state.proofs.plan.replan.Given as goal

abbrev pub invariant-loop-event : goal.invariant-loop-event
invariant-loop-event l = record {
  many : length l.plans.items ≡ length l.fn.plans.items;
  planned : (k : ℕ) (p : EventPlan) → l.fn.first ≤ k → k < l.event → IsPlanOf k (slice_index_or l.plans.items k p) l.fn.instances;
  before : (k : ℕ) (p : EventPlan) → k < l.fn.first → slice_index_or l.plans.items k p ≡ slice_index_or l.fn.plans.items k p;
  after : (k : ℕ) (p : EventPlan) → l.event ≤ k → slice_index_or l.plans.items k p ≡ slice_index_or l.fn.plans.items k p;
}
