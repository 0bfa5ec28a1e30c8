use Rattle.std.proofs.Common.{◌≡◌, ◌+◌}
use Rattle.std.specs.VecDeque.{deque_len, deque_capacity}
use Rattle.std.specs.List.{AllByRecursion}
use Rattle.page_ring.specs.PageBuffers.{HasRoom}
use Rattle.page_ring.proofs.pages.Pages.new.Given as goal

abbrev pub invariant-loop-page : goal.invariant-loop-page
invariant-loop-page l = record {
  count : deque_len l.spare + 1 ≡ l._page;
  capacity : deque_capacity l.spare ≡ l.pages;
  room : AllByRecursion (HasRoom l.page_bytes) l.spare.items;
}
