use Rattle.std.proofs.Common.{◌≡◌, length}
use Rattle.std.specs.VecDeque.Iter.{deque_iter_rest}
use Rattle.page_ring.specs.Unread.{unread_left}
use Rattle.page_ring.proofs.pages.Unread.next_unread.Given as goal

abbrev pub invariant-pages : goal.invariant-pages
invariant-pages l = unread_left l.self ≡ unread_left l.initial.self

abbrev pub decreases-pages : goal.decreases-pages
decreases-pages l = length (deque_iter_rest l.self.circle)
