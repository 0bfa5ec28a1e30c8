use Rattle.std.proofs.Common.{◌≡◌, ◌<◌, ◌≤◌, List, map, drop, IfSome}
use Rattle.page_ring.specs.Account.{readings_of}
use Rattle.page_ring.specs.Events.{Event}
use Rattle.trace_buffer.specs.Buffers.{StandsFor, cpus}
use Rattle.trace_buffer.specs.private.Nexts.{next_of}
use Rattle.trace_buffer.proofs.buffer.Buffer.next_read.Given as goal

abbrev pub invariant-loop-cpu : goal.invariant-loop-cpu
invariant-loop-cpu l = record {
  next : (family : List (List Event)) → StandsFor l.self family
      → l.next ≡ next_of l.cpu (drop l.cpu (map (readings_of l.self.pages l.self.page_bytes) family));
  below : IfSome l.next (λ next. next.cpu < cpus l.self);
  all : l.cpu ≤ cpus l.self;
}
