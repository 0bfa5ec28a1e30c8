use Rattle.std.proofs.Common.{◌≡◌, subst}
use Rattle.page_ring.specs.Account.{readings_from}
use Rattle.page_ring.specs.Copies.{Copied}
use Rattle.page_ring.specs.Shown.{Seen}
use Rattle.page_ring.specs.private.Step.{stats_shown, readings_shown}
use Rattle.page_ring.proofs.CopyFacts.{copy_rising, copy_few}
use Rattle.page_ring.proofs.rings.Ring.copy_step.Goals as goal

pub new-requires-clause-rising : goal.new-requires-clause-rising
new-requires-clause-rising c = copy_rising c.self.inside c.in_ok-pages.pages c.self.invariant c.in_ok-pages.ensures

pub new-requires-clause-few : goal.new-requires-clause-few
new-requires-clause-few c = copy_few c.self.inside c.in_ok-pages.pages c.self.invariant c.in_ok-pages.ensures

pub returns : goal.returns
unfolding readings_shown
returns c =
    let P : Seen → Type 0 = λ v. c.new.result ≡ record { stats = stats_shown c.args.self.now.shown; readings = readings_shown v.shown } in
    subst P c.self.view_is (rw (← c.in_ok-pages.ensures, ← c.stats_step.ensures) c.new.ensures)
