use Rattle.std.proofs.Common.{refl}
use Rattle.page_ring.specs.Cut.{cut}
use Rattle.page_ring.specs.Account.{account}
use Rattle.page_ring.specs.Shown.{shown_by, StandsFor}
use Rattle.page_ring.proofs.rings.Ring.new.Goals as goal

pub returns-clause-stands : goal.returns-clause-stands
unfolding StandsFor shown_by account cut
returns-clause-stands c =
    let p = c.in_ok-new.ensures in
    rw (p.reader, p.circle, p.tail) refl
