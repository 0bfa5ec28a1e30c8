use Rattle.std.proofs.Common.{◌+◌, ◌<◌, ◌^◌, subst, sym}
use Rattle.page_ring.specs.StoredPage.{StoredPage}
use Rattle.page_ring.specs.PageReads.{AppendsTo}
use Rattle.page_ring.specs.PageBytes.{seen_page}
use Rattle.page_ring.proofs.PageBytesFacts.{page_appended, appends_to}
use Rattle.page_ring.proofs.page.Page.append.Goals as goal

pub invariant_of-self : goal.invariant_of-self
invariant_of-self c =
    let a = c.self.inside in
    let Few : StoredPage → Type 0 = λ p. p.next + 1 < 2 ^ 64 in
    page_appended a c.extend_from_slice.new.self c.args.rec.now c.self.invariant c.requires.is_record (rw c.unwrap.ensures at c.extend_from_slice.ensures.items) (subst Few (sym c.self.view_is) c.requires.few)

pub returns : goal.returns
returns c =
    let a = c.self.inside in
    let bytes = c.extend_from_slice.new.self in
    let P : StoredPage → Type 0 = λ p. AppendsTo p (seen_page (record a { bytes = bytes; unread = a.unread + 1 })) c.args.rec.now in
    subst P c.self.view_is (appends_to a bytes c.args.rec.now c.self.invariant c.requires.is_record (rw c.unwrap.ensures at c.extend_from_slice.ensures.items) c.extend_from_slice.ensures.capacity)
