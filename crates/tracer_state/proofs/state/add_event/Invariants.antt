use Rattle.std.proofs.Common.{◌≡◌, ℕ, ◌≤◌, ◌<◌, length, slice_index_or}
use Rattle.trace_instance.specs.Changes.{with_event}
use Rattle.tracer_state.specs.declared.state.Named.{Named}
use Rattle.tracer_state.proofs.state.add_event.Given as goal

abbrev pub invariant-loop-i : goal.invariant-loop-i
invariant-loop-i l = record {
  many : length l.instances ≡ length l.fn.instances;
  names : (k : ℕ) (d : Named) → (slice_index_or l.instances k d).name ≡ (slice_index_or l.fn.instances k d).name;
  came : (k : ℕ) (d : Named) → k < l.i → (slice_index_or l.instances k d).instance ≡ with_event (slice_index_or l.fn.instances k d).instance;
  left : (k : ℕ) (d : Named) → l.i ≤ k → slice_index_or l.instances k d ≡ slice_index_or l.fn.instances k d;
}
