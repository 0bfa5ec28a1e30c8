-- What calls come to.
use Rattle.std.proofs.Common.{◌≡◌, ℕ, ◌<◌, List, ◌∷◌, length, Result, Ok, Err, IfOk, IfErr, OnOk, OnErr, refl, sym, subst, arith}
use Rattle.trace_command.specs.Refusals.{IsRefusal}
use Rattle.trace_command.specs.Requests.{Request}
use Rattle.trace_command.specs.declared.command.Config.{Config}
use Rattle.trace_command.specs.declared.command.Reply.{Reply}
use Rattle.trace_command.specs.declared.refusal.Refusal.{Refusal}
use Rattle.trace_command.specs.declared.refusal.Refusal.TheVariants.{Memory}
use Rattle.tracer_specification.specs.History.{answer_with_room}
use Rattle.tracer_specification.specs.LateMemory.{TakesMemoryLate}
use Rattle.trace_instance.specs.MemoryTaken.{TakesNoMemory}
use Rattle.trace_instance.proofs.TakingNone.{none-late}
use Rattle.tracer_state.specs.States.{IsPrepared, TakesMemory}
use Rattle.tracer_state.specs.declared.state.Prepared.{Prepared}
use Rattle.tracer.specs.LiveSeen.{LiveSeen}
use Rattle.tracer.specs.Lives.{IsCallWithin, IsLive, limited_answer}
use Rattle.tracer.proofs.Limits.{limited-done, limited-late}

-- one that is done
pub call-done : (limit : ℕ) (g : Config) (past : List Request) (new : LiveSeen) (request : Request) (reply : Reply) → new.config ≡ g
    → answer_with_room g past request ≡ Ok reply → length past < limit → IsLive new.config (request ∷ past) new
    → IsCallWithin limit past new request (Ok reply)
call-done limit g past new request reply config done room lives =
    let given : answer_with_room new.config past request ≡ Ok reply = rw config done in
    let is : limited_answer limit new.config past request ≡ Ok reply = limited-done limit new.config past request reply given room in record {
      reply = is;
      early = λ early. absurd (limited-late limit new.config past request reply given early);
      late_memory = λ late. rw is tt;
      takes_none = λ none. sym is;
      done = lives;
      refused = tt;
    }

-- one that is refused
pub call-refused : (limit : ℕ) (past : List Request) (new : LiveSeen) (request : Request) (refusal : Refusal)
    → IsRefusal refusal (limited_answer limit new.config past request) → (TakesMemoryLate request → refusal ≡ Memory → ⊥) → IsLive new.config past new
    → IsCallWithin limit past new request (Err refusal)
call-refused limit past new request refusal is other lives = record {
  reply = is.0;
  early = λ early. sym (is.1 early);
  late_memory = λ late. rw (is.0 (other late)) refl;
  takes_none = λ none. sym (is.0 (other (none-late past request none)));
  done = tt;
  refused = lives;
}

-- one that could be done, for which memory is refused
pub call-memory : (limit : ℕ) (g : Config) (past : List Request) (new : LiveSeen) (request : Request) (reply : Reply) → new.config ≡ g
    → answer_with_room g past request ≡ Ok reply → length past < limit → (TakesNoMemory past request → ⊥) → IsLive new.config past new
    → IsCallWithin limit past new request (Err Memory)
call-memory limit g past new request reply config done room some lives =
    let given : answer_with_room new.config past request ≡ Ok reply = rw config done in
    let is : limited_answer limit new.config past request ≡ Ok reply = limited-done limit new.config past request reply given room in record {
      reply = λ other. absurd (other refl);
      early = λ early. absurd (limited-late limit new.config past request reply given early);
      late_memory = λ late. rw is tt;
      takes_none = λ none. absurd (some none);
      done = tt;
      refused = lives;
    }

-- one whose change was prepared, and which is done or refused memory then
pub call-carried : (limit : ℕ) (past : List Request) (old new : LiveSeen) (request : Request) (prepared : Prepared) (result : Result Reply Refusal)
    → new.config ≡ old.config → IsLive old.config past old → IsPrepared old.config past request old.state (Ok prepared) → old.done < limit
    → OnOk result ((p : List Request) (r : Request) → IsLive old.config p old → IsPrepared old.config p r old.state (Ok prepared)
    → IsLive new.config (r ∷ p) new)
    → IfOk result (λ reply. reply ≡ prepared.reply) → OnErr result ((p : List Request) → IsLive old.config p old → IsLive new.config p new)
    → IfErr result (λ refusal. refusal ≡ Memory) → (TakesNoMemory past request → TakesMemory old.state prepared.change → ⊥)
    → OnErr result (TakesMemory old.state prepared.change) → IsCallWithin limit past new request result
call-carried limit past old new request prepared (Ok reply) config lives given room carried is kept memory none takes =
    let left : length past < limit = omega (arith, lives.count, room) in
    subst (λ (r : Reply). IsCallWithin limit past new request (Ok r)) (sym is)
    (call-done limit old.config past new request prepared.reply config given.0 left (carried past request lives given))
call-carried limit past old new request prepared (Err refusal) config lives given room carried is kept memory none takes =
    let left : length past < limit = omega (arith, lives.count, room) in
    subst (λ (r : Refusal). IsCallWithin limit past new request (Err r)) (sym memory)
    (call-memory limit old.config past new request prepared.reply config given.0 left (λ without. none without takes) (kept past lives))
