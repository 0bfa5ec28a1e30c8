-- What reads come to whose replies are made later.
use Rattle.std.proofs.Common.{◌≡◌, ℕ, ◌<◌, List, ◌∷◌, Result, Ok, Err, IfOk, IfErr, OnOk, OnErr, ap}
use Rattle.trace_command.specs.Requests.{Request}
use Rattle.trace_command.specs.declared.refusal.Refusal.{Refusal}
use Rattle.trace_command.specs.declared.refusal.Refusal.TheVariants.{Memory}
use Rattle.trace_instance.specs.LateReplies.{reply_of}
use Rattle.trace_instance.specs.MemoryTaken.{TakesNoMemory}
use Rattle.trace_instance.specs.declared.late_reply.LateReply.{LateReply}
use Rattle.tracer_state.specs.LateReads.{prepared_by}
use Rattle.tracer_state.specs.States.{IsPrepared, TakesMemory}
use Rattle.tracer_state.specs.declared.late.PreparedLate.{PreparedLate}
use Rattle.tracer.specs.LateReads.{replied}
use Rattle.tracer.specs.LiveSeen.{LiveSeen}
use Rattle.tracer.specs.Lives.{IsCallWithin, IsLive}
use Rattle.tracer.proofs.Calls.{call-carried}

-- one whose change was prepared, and which is done or refused memory then
pub call-late : (limit : ℕ) (past : List Request) (old new : LiveSeen) (request : Request) (prepared : PreparedLate) (result : Result LateReply Refusal)
    → new.config ≡ old.config → IsLive old.config past old → IsPrepared old.config past request old.state (Ok (prepared_by prepared)) → old.done < limit
    → OnOk result ((p : List Request) (r : Request) → IsLive old.config p old → IsPrepared old.config p r old.state (Ok (prepared_by prepared))
    → IsLive new.config (r ∷ p) new)
    → IfOk result (λ late. late ≡ prepared.late) → OnErr result ((p : List Request) → IsLive old.config p old → IsLive new.config p new)
    → IfErr result (λ refusal. refusal ≡ Memory) → (TakesNoMemory past request → TakesMemory old.state prepared.change → ⊥)
    → OnErr result (TakesMemory old.state prepared.change) → IsCallWithin limit past new request (replied result)
call-late limit past old new request prepared (Ok late) config lives given room carried is kept memory none takes =
    call-carried limit past old new request (prepared_by prepared) (Ok (reply_of late)) config lives given room carried (ap reply_of is) kept memory none takes
call-late limit past old new request prepared (Err refusal) config lives given room carried is kept memory none takes =
    call-carried limit past old new request (prepared_by prepared) (Err refusal) config lives given room carried is kept memory none takes
