-- What is prepared for a read of records of which no text is made.
use Rattle.std.specs.Prelude.{List, Result, Ok, Err}
use Rattle.trace_command.specs.Requests.{Request}
use Rattle.trace_command.specs.declared.command.Config.{Config}
use Rattle.trace_command.specs.declared.command.Reply.{Reply}
use Rattle.trace_command.specs.declared.refusal.Refusal.{Refusal}
use Rattle.tracer_state.specs.States.{IsPrepared}
use Rattle.tracer_state.specs.declared.change.Change.{Change}
use Rattle.tracer_state.specs.declared.state.Prepared.{Prepared}
use Rattle.tracer_state.specs.declared.state.State.{State}

-- a change, and a reply that is not told
abbrev pub with_reply : Change → Reply → Prepared
with_reply change reply = record { change = change; reply = reply }

-- the change was prepared that the request makes, with the reply that the request has, whatever that is; or why it is refused
abbrev pub IsTakePrepared : Config → List Request → Request → State → Result Change Refusal → Type 0
IsTakePrepared g past request state (Ok change) = (reply : Reply) × IsPrepared g past request state (Ok (with_reply change reply))
IsTakePrepared g past request state (Err refusal) = IsPrepared g past request state (Err refusal)
