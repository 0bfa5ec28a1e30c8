use Rattle.std.proofs.Common.{◌≡◌, ◌+◌, ◌≤◌, length, sym, ◌∙◌, arith}
use Rattle.std.specs.VecDeque.{deque_len}
use Rattle.page_ring.proofs.BufferFacts.{circle_short}
use Rattle.page_ring.proofs.pages.Pages.free_page.Goals as goal

pub unwrap-requires : goal.unwrap-requires
unwrap-requires c =
    let h = c.requires.circle in
    let short : length c.args.self.now.circle.items + 2 ≤ c.args.pages =
    circle_short c.args.pages c.args.self.now.tail.number h.0 c.args.self.now.circle.items c.requires.two_pages h.1 h.2 (sym c.head_is_in_the_way.ensures ∙ c.if-head_is_in_the_way.false) in
    let lies : deque_len c.args.self.now.circle ≡ length c.args.self.now.circle.items = c.args.self.now.circle.ok.0 in
    let count : deque_len c.args.self.now.circle + deque_len c.args.self.now.spare + 1 ≡ c.args.pages = c.requires.buffers.count in
    c.pop_front-2.ensures.variant.1 (omega arith)
