use Rattle.std.proofs.Common.{◌≡◌, ◌++◌, flat_map}
use Rattle.std.specs.VecDeque.Iter.{deque_iter_rest}
use Rattle.page_ring.specs.Pages.{stored}
use Rattle.page_ring.proofs.pages.copied.Given as goal

abbrev pub invariant-loop-page : goal.invariant-loop-page
invariant-loop-page l =
    flat_map stored l.copies.items ++ flat_map stored (deque_iter_rest l.page-iterator) ≡ flat_map stored l.pages.items
