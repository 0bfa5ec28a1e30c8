use Rattle.std.proofs.Common.{◌≡◌, ◌≤◌, List}
use Rattle.page_ring.specs.Events.{Event}
use Rattle.trace_buffer.specs.Buffers.{StandsFor, offers, cpus}
use Rattle.trace_buffer.specs.Families.{kept_count}
use Rattle.trace_buffer.specs.Orders.{consume_any}
use Rattle.trace_buffer.proofs.buffer.Buffer.take_any.Given as goal

abbrev pub invariant-loop-count : goal.invariant-loop-count
invariant-loop-count l = record {
  stands : (family : List (List Event)) → StandsFor l.initial.self family
      → StandsFor l.self (consume_any l.initial.self.pages l.initial.self.page_bytes l.count family).family;
  kept : (family : List (List Event)) → StandsFor l.initial.self family
      → l.count ≤ kept_count l.initial.self.pages l.initial.self.page_bytes family;
  cpus : cpus l.self ≡ cpus l.initial.self;
  pages : l.self.pages ≡ l.initial.self.pages;
  page_bytes : l.self.page_bytes ≡ l.initial.self.page_bytes;
  offers : offers l.self ≡ offers l.initial.self;
}
