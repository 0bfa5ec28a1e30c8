use Rattle.std.proofs.Common.{◌≡◌, Err, rules}
use Rattle.trace_command.specs.declared.refusal.Refusal.TheVariants.{Memory}
use Rattle.tracer_state.proofs.state.State.make_change.Goals as goal

pub change_one-requires-clause-lawful : goal.change_one-requires-clause-lawful
change_one-requires-clause-lawful c = λ d.
    rw c.deref_mut-in-Instance.ensures.value ((rw c.in-Instance.is at c.requires.ready).1 d)

pub returns-in_err-change_one-in-Instance-clause-takes_memory : goal.returns-in_err-change_one-in-Instance-clause-takes_memory
returns-in_err-change_one-in-Instance-clause-takes_memory c =
    let out : c.from_residual-in_err-change_one-in-Instance.result ≡ Err Memory = search rules in
    rw (out, c.in-Instance.is) (λ d. rw (← c.deref_mut-in-Instance.ensures.value) (c.in_err-change_one-in-Instance.ensures.takes_memory d))
