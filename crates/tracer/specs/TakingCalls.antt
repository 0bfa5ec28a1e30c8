-- Reads of records of which no text is made.
use Rattle.std.specs.Prelude.{ℕ, List, Result, Ok, Err}
use Rattle.trace_command.specs.Requests.{Request}
use Rattle.trace_command.specs.declared.command.Config.{Config}
use Rattle.trace_command.specs.declared.command.Reply.{Reply}
use Rattle.trace_command.specs.declared.refusal.Refusal.{Refusal}
use Rattle.tracer_state.specs.PreparedTakes.{with_reply}
use Rattle.tracer_state.specs.declared.change.Change.{Change}
use Rattle.tracer_state.specs.declared.state.State.{State}
use Rattle.tracer.specs.LiveSeen.{LiveSeen}
use Rattle.tracer.specs.Lives.{IsCall, IsPreparedWithin, IsReadyFor}

-- the change was prepared that the request makes, with the reply that the request has, whatever that is; or why it is refused
abbrev pub IsTakePreparedWithin : ℕ → Config → List Request → Request → State → Result Change Refusal → Type 0
IsTakePreparedWithin limit g past request state (Ok change) = (reply : Reply) × IsPreparedWithin limit g past request state (Ok (with_reply change reply))
IsTakePreparedWithin limit g past request state (Err refusal) = IsPreparedWithin limit g past request state (Err refusal)

-- this change was prepared for some request, with its reply
abbrev pub IsReadyToTake : LiveSeen → Change → Type 0
IsReadyToTake live change = (reply : Reply) × IsReadyFor live (with_reply change reply)

-- what a call comes to of which only whether it was done is told: some answer is what the call with this request comes to, a reply where it was done,
-- and this refusal where it was refused
abbrev pub IsTakingCall : List Request → LiveSeen → Request → Result Unit Refusal → Type 0
IsTakingCall past new request (Ok done) = (reply : Reply) × IsCall past new request (Ok reply)
IsTakingCall past new request (Err refusal) = IsCall past new request (Err refusal)
