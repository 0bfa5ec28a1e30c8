-- A call as a turn of a mounted tracer.
use Rattle.std.proofs.Common.{◌≡◌, ◌≤◌, ℕ, List, Result, Err, IfErr, refl, ap, subst}
use Rattle.trace_command.specs.Refusals.{OrMemory, IsFoundEarly}
use Rattle.trace_command.specs.Requests.{Request}
use Rattle.trace_command.specs.declared.command.Config.{Config}
use Rattle.trace_command.specs.declared.command.Reply.{Reply}
use Rattle.trace_command.specs.declared.refusal.Refusal.{Refusal}
use Rattle.tracer_specification.specs.LateMemory.{TakesMemoryLate}
use Rattle.trace_instance.specs.MemoryTaken.{TakesNoMemory}
use Rattle.tracer.specs.LiveSeen.{LiveSeen}
use Rattle.tracer.specs.Lives.{IsCallWithin, limited_answer, most_done}
use Rattle.mount_tree.specs.Scenes.{SceneSeen}
use Rattle.mount_replies.specs.Calls.{Called, IsCommanded, IsTurned, noting_called}
use Rattle.mount_replies.specs.Mounted.{IsMounted, MountSeen, past_after, service_of, terms_of}
use Rattle.mount_replies.specs.Services.{Terms}
use Rattle.mount_replies.specs.Steps.{errors_after}
use Rattle.shared_mount.specs.MountHistories.{IsPromised}
use Rattle.shared_mount.proofs.OwnAnswers.{unworn}

pub promised : (limit : ℕ) (g : Config) (past : List Request) (new : LiveSeen) (request : Request) (answer : Result Reply Refusal) → new.config ≡ g
    → IsCallWithin limit past new request answer → IsPromised limit g past request answer
promised limit g past new request answer same call =
    let P : Config → Type 0 = λ c. OrMemory answer (limited_answer limit c past request) in
    let Q : Config → Type 0 = λ c. IsFoundEarly (limited_answer limit c past request) → answer ≡ limited_answer limit c past request in
    let R : Config → Type 0 = λ c. TakesMemoryLate request → IfErr (limited_answer limit c past request) (λ refusal. answer ≡ Err refusal) in
    let S : Config → Type 0 = λ c. TakesNoMemory past request → answer ≡ limited_answer limit c past request in
    record {
      reply = subst P same call.reply;
      early = subst Q same call.early;
      late_memory = subst R same call.late_memory;
      takes_none = subst S same call.takes_none;
      unworn = unworn limit g past request answer (subst P same call.reply);
    }

pub called-turned : (limit : ℕ) (past : List Request) (old new : MountSeen) (request : Request) (answer : Result Reply Refusal) → limit ≤ most_done → IsMounted past old
    → IsCommanded limit past old new request answer
    → IsTurned (terms_of old) (service_of past old) (Called limit request answer) (service_of (past_after answer request past) new)
called-turned limit past old new request answer few mounted is =
    let tells : IsPromised limit old.live.config past request answer =
    promised limit old.live.config past new.live request answer (ap (λ (g : Terms). g.config) is.terms) is.call in
    let noted = subst (λ (s : SceneSeen). new.errors ≡ errors_after (noting_called s request answer) old.errors) mounted.scene is.errors in
    (record { few = few; reply = tells.reply; takes_none = tells.takes_none }, rw (is.files, is.parked, noted, is.counted) refl)
