use Rattle.std.proofs.Common.{◌≡◌, Err, rules}
use Rattle.tracer_state.proofs.state.State.copy_declarations.Goals as goal

pub returns-in_err-read_declarations : goal.returns-in_err-read_declarations
returns-in_err-read_declarations c = λ g past name stands is.
    let out : c.from_residual.result ≡ Err c.in_err-read_declarations.field-0.0 = search rules in
    rw out (c.in_err-read_declarations.ensures g past name stands is)

pub returns : goal.returns
returns c = λ g past name stands is.
    rw (c.into_parts-change.ensures.0, c.into_parts-change.ensures.1) (c.in_ok-read_declarations.ensures g past name stands is)
