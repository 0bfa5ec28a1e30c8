use Rattle.std.proofs.Common.{◌∙◌}
use Rattle.page_ring.proofs.Stands.{readings_of_shown}
use Rattle.page_ring.proofs.rings.Ring.kept.Goals as goal

pub returns-clause-records : goal.returns-clause-records
returns-clause-records c = λ events s. c.kept_step.ensures.records ∙ readings_of_shown c.args.self.now events s
