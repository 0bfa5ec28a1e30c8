use Rattle.std.proofs.Common.{ℕ, ◌<◌, ◌≤◌, ◌^◌, List, length}
use Rattle.page_ring.specs.Events.{Event}
use Rattle.trace_buffer.specs.Buffers.{StandsFor}
use Rattle.trace_buffer.specs.Families.{cpu_readings}
use Rattle.trace_buffer.proofs.buffer.Buffer.entries.Given as goal

abbrev pub invariant-loop-cpu : goal.invariant-loop-cpu
invariant-loop-cpu l = record {
  few : (family : List (List Event)) → StandsFor l.self family → (j : ℕ) → j < l.cpu → length (cpu_readings l.self.pages l.self.page_bytes family j) ≤ 2 ^ 32;
}
