use Rattle.std.proofs.Common.{◌≡◌, false, List, take}
use Rattle.page_ring.specs.Events.{Event}
use Rattle.trace_buffer.specs.Buffers.{StandsFor, cpus}
use Rattle.trace_buffer.specs.Families.{any_has_waiting}
use Rattle.trace_buffer.proofs.buffer.Buffer.has_waiting.Given as goal

abbrev pub invariant-loop-cpu : goal.invariant-loop-cpu
invariant-loop-cpu l = record {
  none : (family : List (List Event)) → StandsFor l.self family
      → any_has_waiting l.self.pages l.self.page_bytes (take l.cpu family) ≡ false;
  end : l.cpu-end ≡ cpus l.self;
}
