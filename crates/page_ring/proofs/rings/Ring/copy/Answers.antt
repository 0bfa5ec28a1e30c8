use Rattle.page_ring.proofs.CopyFacts.{copied_of_shown}
use Rattle.page_ring.proofs.rings.Ring.copy.Goals as goal

pub returns : goal.returns
returns c = copied_of_shown c.args.self.now _ c.copy_step.ensures
