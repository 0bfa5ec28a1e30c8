use Rattle.std.proofs.Common.{refl}
use Rattle.page_ring.specs.Cut.{cut}
use Rattle.page_ring.specs.Account.{account}
use Rattle.page_ring.specs.Shown.{shown_by, StandsFor}
use Rattle.page_ring.proofs.Readings.{sound_cleared}
use Rattle.page_ring.proofs.rings.Ring.clear.Goals as goal

pub invariant_of-self : goal.invariant_of-self
invariant_of-self c = sound_cleared c.self.inside c.clear.new.self c.self.invariant c.clear.ensures

pub returns-clause-stands : goal.returns-clause-stands
unfolding StandsFor shown_by account cut
returns-clause-stands c =
    rw (c.clear.ensures.reader, c.clear.ensures.circle, c.clear.ensures.tail) refl
