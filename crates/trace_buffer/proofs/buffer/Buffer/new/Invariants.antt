use Rattle.std.proofs.Common.{◌≡◌, [], map, replicate}
use Rattle.page_ring.specs.Shown as ring
use Rattle.trace_buffer.specs.Buffers.{EachStandsFor}
use Rattle.trace_buffer.specs.Sound.{HasShape}
use Rattle.trace_buffer.proofs.buffer.Buffer.new.Given as goal

abbrev pub invariant-loop-cpu : goal.invariant-loop-cpu
invariant-loop-cpu l = record {
  stands : EachStandsFor l.rings.items (replicate l._cpu []);
  shape : HasShape l.pages l.page_bytes l.rings.items;
  offers : map ring.offered l.rings.items ≡ replicate l._cpu 0;
}
