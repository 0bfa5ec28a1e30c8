use Rattle.tracer.proofs.Living.{live-usable}
use Rattle.tracer.proofs.tracer.Tracer.waiting.Goals as goal

pub waiting-requires : goal.waiting-requires
waiting-requires c = record { usable = live-usable _ _ _ c.self.invariant.lives }

pub returns : goal.returns
returns c = rw (← c.self.view_is) (λ past lives. c.waiting.ensures past lives.stands)
