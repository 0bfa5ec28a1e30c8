use Rattle.std.proofs.Common.{ap, ◌∙◌, List}
use Rattle.page_ring.specs.Account.{Reading, first}
use Rattle.page_ring.proofs.Stands.{readings_of_shown}
use Rattle.page_ring.proofs.rings.Ring.peek.Goals as goal

pub returns : goal.returns
returns c = λ events s. c.peek_step.ensures ∙ ap (λ (rs : List Reading). first rs) (readings_of_shown c.args.self.now events s)
