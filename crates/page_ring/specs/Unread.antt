-- What an iterator over the unread records has left.
use Rattle.std.specs.Prelude.{List, ◌++◌, flat_map}
use Rattle.std.specs.VecDeque.Iter.{deque_iter_rest}
use Rattle.page_ring.specs.StoredPage.{Stored}
use Rattle.page_ring.specs.declared.pages.Unread.{Unread}

abbrev pub unread_left : Unread → List Stored
unread_left it = it.page ++ flat_map (λ p. p.records) (deque_iter_rest it.circle) ++ it.tail
