use Rattle.std.proofs.Common.{◌≡◌, List, take}
use Rattle.page_ring.specs.Events.{Event}
use Rattle.trace_buffer.specs.Buffers.{StandsFor, offers, cpus}
use Rattle.trace_buffer.specs.CpuCounts.{after_reads_of_each}
use Rattle.trace_buffer.proofs.buffer.Buffer.take_each.Given as goal

abbrev pub invariant-loop-cpu : goal.invariant-loop-cpu
invariant-loop-cpu l = record {
  stands : (family : List (List Event)) → StandsFor l.initial.self family
      → StandsFor l.self (after_reads_of_each l.initial.self.pages l.initial.self.page_bytes (take l.cpu l.counts) family);
  many : cpus l.self ≡ cpus l.initial.self;
  pages : l.self.pages ≡ l.initial.self.pages;
  page_bytes : l.self.page_bytes ≡ l.initial.self.page_bytes;
  offers : offers l.self ≡ offers l.initial.self;
  end : l.cpu-end ≡ cpus l.initial.self;
}
