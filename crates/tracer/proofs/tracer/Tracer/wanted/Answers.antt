use Rattle.tracer.proofs.LiveMasks.{mask-after}
use Rattle.tracer.proofs.tracer.Tracer.wanted.Goals as goal

pub returns : goal.returns
returns c = rw (← c.self.view_is) (λ past lives. mask-after c.self.inside.config c.self.inside.state past c.wanted.result lives.stands c.wanted.ensures)
