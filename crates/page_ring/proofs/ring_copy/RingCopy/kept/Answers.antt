use Rattle.std.proofs.Common.{◌≡◌, ◌∙◌, map, subst}
use Rattle.page_ring.specs.Account.{readings_from}
use Rattle.page_ring.specs.Copies.{Copied}
use Rattle.page_ring.specs.Pages.{on_page}
use Rattle.page_ring.specs.Unread.{unread_left}
use Rattle.page_ring.proofs.Readings.{readings_unread}
use Rattle.page_ring.proofs.CopyFacts.{copy_lends, copy_lends_few}
use Rattle.page_ring.proofs.ring_copy.RingCopy.kept.Goals as goal

pub new-requires : goal.new-requires
new-requires c =
    copy_lends c.self.inside.next c.self.inside.pages _ c.unread.ensures c.self.invariant.rising

pub returns-clause-records : goal.returns-clause-records
returns-clause-records c =
    let P : Copied → Type 0 = λ s. readings_from c.self.inside.next (map (on_page 0) (unread_left c.unread.result)) ≡ s.readings in
    c.new.ensures ∙ subst P c.self.view_is (readings_unread c.self.inside.next c.self.inside.pages _ c.unread.ensures)

pub returns-clause-few : goal.returns-clause-few
returns-clause-few c =
    rw c.new.ensures (copy_lends_few c.self.inside.next c.self.inside.pages _ c.unread.ensures c.self.invariant.few)
