use Rattle.std.proofs.Common.{◌≡◌, List, map, take}
use Rattle.page_ring.specs.Events.{Event}
use Rattle.trace_buffer.specs.Buffers.{StandsFor, cpus}
use Rattle.trace_buffer.specs.CpuReadings.{kept_reading}
use Rattle.trace_buffer.specs.Orders.{kept_from}
use Rattle.trace_buffer.proofs.buffer.Buffer.all_kept.Given as goal

abbrev pub invariant-loop-cpu : goal.invariant-loop-cpu
invariant-loop-cpu l = record {
  kept : (family : List (List Event)) → StandsFor l.self family
      → map kept_reading l.records.items ≡ kept_from l.self.pages l.self.page_bytes 0 (take l.cpu family);
  end : l.cpu-end ≡ cpus l.self;
}
