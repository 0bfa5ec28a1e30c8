use Rattle.std.proofs.Common.{◌≡◌, ℕ, ◌≤◌, ◌<◌, [], length, slice_index_or}
use Rattle.trace_instance.specs.Deliveries.{CanCountRow}
use Rattle.trace_instance.specs.Instances.{IsAlike, passed_in}
use Rattle.tracer_state.specs.declared.state.Named.{Named}
use Rattle.tracer_state.proofs.emission.reserve_each.Given as goal

abbrev pub invariant-loop-i : goal.invariant-loop-i
invariant-loop-i l = record {
  many : length l.instances ≡ length l.fn.instances;
  places : length l.passed ≡ 8;
  names : (k : ℕ) (d : Named) → (slice_index_or l.instances k d).name ≡ (slice_index_or l.fn.instances k d).name;
  alike : (k : ℕ) (d : Named) → k < l.i → IsAlike (slice_index_or l.fn.instances k d).instance (slice_index_or l.instances k d).instance;
  counted : (k : ℕ) (d : Named) → k < l.i → CanCountRow l.fn.emission l.fn.event
      (slice_index_or l.instances k d).instance;
  known : (k : ℕ) → k < l.i → (n : Named)
      → slice_index_or l.passed k [] ≡ passed_in l.fn.emission l.fn.event
      (slice_index_or l.fn.instances k n).instance;
  left : (k : ℕ) (d : Named) → l.i ≤ k → slice_index_or l.instances k d ≡ slice_index_or l.fn.instances k d;
}
