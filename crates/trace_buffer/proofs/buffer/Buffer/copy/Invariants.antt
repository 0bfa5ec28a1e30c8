use Rattle.std.proofs.Common.{◌≡◌, List, length, take}
use Rattle.page_ring.specs.Events.{Event}
use Rattle.trace_buffer.specs.Buffers.{StandsFor, cpus}
use Rattle.trace_buffer.specs.Copies.{copies_of}
use Rattle.trace_buffer.proofs.buffer.Buffer.copy.Given as goal

abbrev pub invariant-loop-cpu : goal.invariant-loop-cpu
invariant-loop-cpu l = record {
  copied : (family : List (List Event)) → StandsFor l.self family
      → l.rings.items ≡ copies_of l.self.pages l.self.page_bytes (take l.cpu family);
  count : length l.rings.items ≡ l.cpu;
  end : l.cpu-end ≡ cpus l.self;
}
