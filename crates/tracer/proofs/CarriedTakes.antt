-- What reads come to of which nothing is shown.
use Rattle.std.proofs.Common.{◌≡◌, ◌<◌, List, ◌∷◌, Result, Ok, Err, IfErr, OnOk, OnErr, refl}
use Rattle.trace_command.specs.Requests.{Request}
use Rattle.trace_command.specs.declared.command.Reply.{Reply}
use Rattle.trace_command.specs.declared.refusal.Refusal.{Refusal}
use Rattle.trace_command.specs.declared.refusal.Refusal.TheVariants.{Memory}
use Rattle.trace_instance.specs.MemoryTaken.{TakesNoMemory}
use Rattle.tracer_state.specs.States.{IsPrepared, TakesMemory}
use Rattle.tracer_state.specs.PreparedTakes.{with_reply}
use Rattle.tracer_state.specs.declared.change.Change.{Change}
use Rattle.tracer.specs.LiveSeen.{LiveSeen}
use Rattle.tracer.specs.Lives.{IsLive, most_done}
use Rattle.tracer.specs.TakingCalls.{IsTakingCall}
use Rattle.tracer.proofs.Calls.{call-carried}

-- one whose change was prepared, and which is done or refused memory then
pub call-taken : (past : List Request) (old new : LiveSeen) (request : Request) (change : Change) (reply : Reply) (result : Result Unit Refusal)
    → new.config ≡ old.config → IsLive old.config past old → IsPrepared old.config past request old.state (Ok (with_reply change reply)) → old.done < most_done
    → OnOk result ((p : List Request) (r : Request) (y : Reply) → IsLive old.config p old → IsPrepared old.config p r old.state (Ok (with_reply change y))
    → IsLive new.config (r ∷ p) new)
    → OnErr result ((p : List Request) → IsLive old.config p old → IsLive new.config p new)
    → IfErr result (λ refusal. refusal ≡ Memory) → (TakesNoMemory past request → TakesMemory old.state change → ⊥)
    → OnErr result (TakesMemory old.state change) → IsTakingCall past new request result
call-taken past old new request change reply (Ok done) config lives given room carried kept memory none takes =
    (reply, call-carried most_done past old new request (with_reply change reply) (Ok reply) config lives given room (λ p r living prepared. carried p r reply living prepared) refl tt tt none tt)
call-taken past old new request change reply (Err refusal) config lives given room carried kept memory none takes =
    call-carried most_done past old new request (with_reply change reply) (Err refusal) config lives given room tt tt kept memory none takes
