use Rattle.std.proofs.Common.{◌++◌, ◌∷◌, [], ap, ◌∙◌, refl}
use Rattle.page_ring.specs.StoredPage.{StoredPage}
use Rattle.page_ring.proofs.BufferFacts.{moved_in_circle}
use Rattle.page_ring.proofs.pages.Pages.move_in_circle.Goals as goal

pub returns-clause-moves : goal.returns-clause-moves
returns-clause-moves c =
    let old = c.args.self.now in
    let frees = c.free_page-next.ensures.frees in
    let page = c.free_page-next.result.0 in
    moved_in_circle c.args.pages old c.free_page-next.new.self page c.replace-old.new.dest c.push_back_reserved.new.self c.requires.buffers frees
    (c.replace-old.ensures.after ∙ c.begin.ensures ∙ rw (c.number.ensures, c.next.ensures, frees.tail) refl)
    (c.push_back_reserved.ensures.items ∙ ap (λ (p : StoredPage). c.free_page-next.new.self.circle.items ++ p ∷ []) (c.replace-old.ensures.value ∙ frees.tail))
    c.push_back_reserved.ensures.len c.push_back_reserved.ensures.capacity
