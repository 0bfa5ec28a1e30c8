-- Commands of which only whether they were done is told.
use Rattle.std.proofs.Common.{◌≡◌, ℕ, List, Some, Result, Ok, Err, refl}
use Rattle.trace_command.specs.Requests.{Request}
use Rattle.trace_command.specs.declared.address.Address.{Address as Borrowed}
use Rattle.trace_command.specs.declared.refusal.Refusal.{Refusal}
use Rattle.tracer.specs.LiveSeen.{LiveSeen}
use Rattle.tracer.specs.TakingCalls.{IsTakingCall}
use Rattle.tracer_state.specs.AddressedRequests.{read_at}
use Rattle.mount_replies.specs.Mounted.{HasLedTo, MountSeen}
use Rattle.mount_replies.specs.UntoldAnswers.{IsAskedUntold}
use Rattle.mount_replies.proofs.AddressLemmas.{asked-call}

-- a read of which nothing is shown was asked of the tracer
pub taking-call : (past : List Request) (old : MountSeen) (live : LiveSeen) (address : Borrowed) (most : ℕ) (result : Result Unit Refusal)
    → HasLedTo past old → live.config ≡ old.live.config → IsTakingCall past live (read_at address (Some most)) result
    → IsAskedUntold past old (record old { live = live }) (read_at address (Some most)) result
taking-call past old live address most (Ok done) mounted config call =
    (call.0, asked-call past old live (read_at address (Some most)) (Ok call.0) mounted config call.1 refl refl refl)
taking-call past old live address most (Err refusal) mounted config call =
    asked-call past old live (read_at address (Some most)) (Err refusal) mounted config call refl refl refl
