use Rattle.std.proofs.Common.{◌≡◌, ◌∙◌, map, subst}
use Rattle.page_ring.specs.Account.{readings_from}
use Rattle.page_ring.specs.Pages.{on_page}
use Rattle.page_ring.specs.Unread.{unread_left}
use Rattle.page_ring.specs.Shown.{Seen}
use Rattle.page_ring.specs.private.Step.{readings_shown}
use Rattle.page_ring.proofs.Readings.{rising_unread, readings_unread, few_unread}
use Rattle.page_ring.proofs.rings.Ring.kept_step.Goals as goal

pub new-requires : goal.new-requires
new-requires c = rising_unread c.self.inside c.self.invariant _ c.unread.ensures

pub returns-clause-records : goal.returns-clause-records
unfolding readings_shown
returns-clause-records c =
    let P : Seen → Type 0 = λ s. readings_from c.self.inside.next (map (on_page 0) (unread_left c.unread.result)) ≡ readings_from s.shown.next s.shown.kept in
    c.new.ensures ∙ subst P c.self.view_is (readings_unread c.self.inside.next c.self.inside.pages _ c.unread.ensures)

pub returns-clause-few : goal.returns-clause-few
returns-clause-few c = rw c.new.ensures (few_unread c.self.inside c.self.invariant _ c.unread.ensures)
