use Rattle.std.proofs.Common.{◌∙◌}
use Rattle.page_ring.proofs.Stands.{stats_of_shown}
use Rattle.page_ring.proofs.rings.Ring.stats.Goals as goal

pub returns : goal.returns
returns c = λ events s. c.stats_step.ensures ∙ stats_of_shown c.args.self.now events s
