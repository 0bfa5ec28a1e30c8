use Rattle.std.proofs.Common.{◌≡◌, ◌≢◌, ℕ, ◌<◌, false, length, slice_index_or}
use Rattle.trace_instance.specs.Plans.{plan_of}
use Rattle.trace_instance.specs.declared.plan.Plan.TheVariants.{Nothing, Ask}
use Rattle.tracer_state.specs.EventPlans.{unasked}
use Rattle.tracer_state.specs.declared.state.Named.{Named}
use Rattle.tracer_state.proofs.plan.EventPlan.new.Given as goal

abbrev pub invariant-loop-i : goal.invariant-loop-i
invariant-loop-i l = record {
  many : length l.each ≡ 8;
  places : length l.reaches ≡ 8;
  each : (k : ℕ) → k < l.i → (n : Named) → slice_index_or l.each k Nothing ≡ plan_of (slice_index_or l.fn.instances k n).instance l.fn.event;
  reaches : (k : ℕ) → k < l.i → slice_index_or l.reaches k (unasked Nothing) ≡ unasked (slice_index_or l.each k Nothing);
  recorded : l.recorded ≡ false → (k : ℕ) → k < l.i → (slice_index_or l.reaches k (unasked Nothing)).records ≡ false;
  asks : l.some_asks ≡ false → (k : ℕ) → k < l.i → slice_index_or l.each k Nothing ≢ Ask;
}
