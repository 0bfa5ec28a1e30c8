use Rattle.std.proofs.Common.{◌≡◌, [], subst}
use Rattle.page_ring.specs.Shown.{Seen}
use Rattle.page_ring.specs.private.Step.{overrun_by, left_by}
use Rattle.page_ring.proofs.SoundFacts.{none_at_tail, all_at_tail}
use Rattle.page_ring.proofs.rings.Ring.fits_tail.Goals as goal

pub returns-clause-none : goal.returns-clause-none
returns-clause-none c =
    let P : Seen → Type 0 = λ s. overrun_by s.pages s.shown s.shown.last_page ≡ [] in
    subst P c.self.view_is (none_at_tail c.self.inside c.self.invariant)

pub returns-clause-all : goal.returns-clause-all
returns-clause-all c =
    let P : Seen → Type 0 = λ s. left_by s.pages s.shown s.shown.last_page ≡ s.shown.kept in
    subst P c.self.view_is (all_at_tail c.self.inside c.self.invariant)
