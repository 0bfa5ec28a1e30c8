use Rattle.std.proofs.Common.{rules}
use Rattle.trace_script.proofs.TakenCommands.{emission_read, bad_pairs, gives_err}
use Rattle.trace_script.proofs.command.emission.Goals as goal

pub returns-in_err-take_pairs : goal.returns-in_err-take_pairs
returns-in_err-take_pairs c =
    gives_err _ _ _ c.from_residual.ensures.1
    (bad_pairs _ _ _ _ _ _ _ _ c.in-Some.ensures c.in-Some-next_word.ensures c.in-Some-next_word-2.ensures (search rules) c.in_err-take_pairs.ensures)

pub returns : goal.returns
returns c =
    rw (emission_read _ _ _ _ _ _ _ _ c.in-Some.ensures c.in-Some-next_word.ensures c.in-Some-next_word-2.ensures (search rules) c.in_ok-take_pairs.ensures) (rw c.as_slice.ensures.value at c.emission_with.ensures)
