use Rattle.std.proofs.Common.{◌≡◌, ◌-◌, Option, Some, None, sym, subst}
use Rattle.page_ring.specs.Account.{Reading, first}
use Rattle.page_ring.specs.Pages.{kept_in}
use Rattle.page_ring.specs.PageReads.{lent}
use Rattle.page_ring.specs.Shown.{Seen}
use Rattle.page_ring.specs.private.Step.{readings_shown}
use Rattle.page_ring.proofs.Readings.{circle_full, first_reading, no_reading}
use Rattle.page_ring.proofs.rings.Ring.peek_step.Goals as goal

pub first-requires : goal.first-requires
first-requires c = circle_full c.self.inside c.self.invariant

pub returns-in-Some : goal.returns-in-Some
unfolding readings_shown
returns-in-Some c =
    let a = c.self.inside in
    let r = lent c.in-Some.record in
    let P : Seen → Type 0 = λ s. Some (record { lost = r.number - a.next; rec = r.bytes }) ≡ first (readings_shown s.shown) in
    subst P c.self.view_is (sym (first_reading a.next (kept_in a.pages) r c.in-Some.ensures))

pub returns-in-None : goal.returns-in-None
unfolding readings_shown
returns-in-None c =
    let a = c.self.inside in
    let none : Option Reading = None in
    let P : Seen → Type 0 = λ s. none ≡ first (readings_shown s.shown) in
    subst P c.self.view_is (sym (no_reading a.next (kept_in a.pages) c.in-None.ensures))
