use Rattle.tracer_state.proofs.state.State.prepare_make.Goals as goal

pub returns : goal.returns
returns c = λ past stands. rw (← c.in-Some.ensures) (c.prepare_making.ensures past stands)
