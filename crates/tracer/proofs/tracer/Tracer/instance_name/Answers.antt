use Rattle.std.proofs.Common.{◌∙◌}
use Rattle.tracer_state.proofs.MadeNames.{made-name}
use Rattle.tracer.proofs.tracer.Tracer.instance_name.Goals as goal

pub returns : goal.returns
returns c =
    let live = c.self.inside in
    rw (← c.self.view_is) (λ past lives.
    (rw c.deref.ensures.value at c.made_name.ensures) ∙ made-name live.config live.state past c.args.index lives.stands)
