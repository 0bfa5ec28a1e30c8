use Rattle.std.proofs.Common.{◌≡◌, ◌≤◌, List, ◌++◌, length, replicate}
use Rattle.page_ring.specs.Account.{readings_of}
use Rattle.page_ring.specs.Events as event
use Rattle.page_ring.specs.Shown.{StandsFor, offered}
use Rattle.trace_buffer.proofs.buffer.take_from.Given as goal

abbrev pub invariant-loop-count : goal.invariant-loop-count
invariant-loop-count l = record {
  stands : (events : List event.Event) → StandsFor l.initial.ring events → StandsFor l.ring (events ++ replicate l.count event.Take);
  kept : (events : List event.Event) → StandsFor l.initial.ring events
      → l.count ≤ length (readings_of l.initial.ring.pages l.initial.ring.page_bytes events);
  pages : l.ring.pages ≡ l.initial.ring.pages;
  page_bytes : l.ring.page_bytes ≡ l.initial.ring.page_bytes;
  offered : offered l.ring ≡ offered l.initial.ring;
}
