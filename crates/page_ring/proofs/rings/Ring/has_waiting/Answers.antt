use Rattle.std.proofs.Common.{nat_lt, length, ap, ◌∙◌, List}
use Rattle.page_ring.specs.Account.{Reading, has_waiting}
use Rattle.page_ring.proofs.Stands.{readings_of_shown}
use Rattle.page_ring.proofs.rings.Ring.has_waiting.Goals as goal

pub returns : goal.returns
unfolding has_waiting
returns c = λ events s. c.has_waiting_step.ensures ∙ ap (λ (rs : List Reading). nat_lt 0 (length rs)) (readings_of_shown c.args.self.now events s)
