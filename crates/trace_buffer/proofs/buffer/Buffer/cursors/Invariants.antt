use Rattle.std.proofs.Common.{◌≡◌, List, length, map, take}
use Rattle.page_ring.specs.Account.{readings_of}
use Rattle.page_ring.specs.Events.{Event}
use Rattle.trace_buffer.specs.Buffers.{StandsFor, cpus}
use Rattle.trace_buffer.proofs.buffer.Buffer.cursors.Given as goal

abbrev pub invariant-loop-cpu : goal.invariant-loop-cpu
invariant-loop-cpu l = record {
  cursors : (family : List (List Event)) → StandsFor l.self family
      → l.cursors.items ≡ map (readings_of l.self.pages l.self.page_bytes) (take l.cpu family);
  count : length l.cursors.items ≡ l.cpu;
  end : l.cpu-end ≡ cpus l.self;
}
