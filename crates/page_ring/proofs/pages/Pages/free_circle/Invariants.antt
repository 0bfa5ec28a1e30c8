use Rattle.std.proofs.Common.{◌≡◌}
use Rattle.std.specs.VecDeque.{deque_len}
use Rattle.page_ring.specs.PageBuffers.{SameBuffers}
use Rattle.page_ring.proofs.pages.Pages.free_circle.Given as goal

abbrev pub invariant-loop-page : goal.invariant-loop-page
invariant-loop-page l = record {
  reader : l.self.reader ≡ l.initial.self.reader;
  tail : l.self.tail ≡ l.initial.self.tail;
  buffers : SameBuffers l.initial.self l.self;
}

abbrev pub decreases-loop-page : goal.decreases-loop-page
decreases-loop-page l = deque_len l.self.circle
