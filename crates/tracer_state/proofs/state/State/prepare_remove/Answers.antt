use Rattle.tracer_state.proofs.state.State.prepare_remove.Goals as goal

pub returns-clause-prepared : goal.returns-clause-prepared
returns-clause-prepared c = λ g past stands. rw (← c.in-Some.ensures) (c.prepare_removal.ensures.prepared g past stands)
