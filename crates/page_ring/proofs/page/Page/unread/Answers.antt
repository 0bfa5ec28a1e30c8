use Rattle.std.proofs.Common.{◌≡◌, length, subst, sym, drop}
use Rattle.page_ring.specs.StoredPage.{StoredPage}
use Rattle.page_ring.proofs.PackedFacts.{length-records_in}
use Rattle.page_ring.proofs.page.Page.unread.Goals as goal

pub returns : goal.returns
returns c =
    let a = c.self.inside in
    subst (λ (p : StoredPage). a.unread ≡ length p.records) c.self.view_is (sym (length-records_in a.first a.unread (drop a.cursor a.bytes.items)))
