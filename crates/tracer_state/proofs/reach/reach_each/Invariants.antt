use Rattle.std.proofs.Common.{◌≡◌, ℕ, ◌<◌, false, [], length, slice_index_or}
use Rattle.trace_instance.specs.Rows.{reach_of}
use Rattle.tracer_state.specs.States.{no_reach}
use Rattle.tracer_state.specs.declared.state.Named.{Named}
use Rattle.tracer_state.proofs.reach.reach_each.Given as goal

abbrev pub invariant-loop-i : goal.invariant-loop-i
invariant-loop-i l = record {
  many : length l.reaches ≡ 8;
  each : (k : ℕ) → k < l.i → (n : Named)
      → slice_index_or l.reaches k no_reach ≡ reach_of (slice_index_or l.fn.instances k n).instance l.fn.event l.fn.emission;
  none : l.recorded ≡ false → (k : ℕ) → k < l.i → (slice_index_or l.reaches k no_reach).records ≡ false;
  quiet : l.triggered ≡ false → (k : ℕ) → k < l.i → ((slice_index_or l.reaches k no_reach).snapshot_fires ≡ false)
      × ((n : Named) → slice_index_or (slice_index_or l.fn.instances k n).instance.hists l.fn.event [] ≡ []);
}
