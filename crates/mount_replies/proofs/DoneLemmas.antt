-- What a mounted tracer did was done.
use Rattle.std.proofs.Common.{◌≡◌, inl, inr, ℕ, ◌<◌, List, [], ◌∷◌, length, Option, Some, None, Result, Ok, Err, refl, sym, ap, subst, arith, append-nil}
use Rattle.fuse_wire.specs.declared.reply.Reply.{Reply}
use Rattle.fuse_wire.specs.declared.reply.Reply.TheVariants as replies
use Rattle.trace_command.specs.Requests.{Request}
use Rattle.trace_command.specs.declared.command.Config.{Config}
use Rattle.trace_command.specs.declared.command.Reply.{Reply as Answer}
use Rattle.trace_command.specs.declared.refusal.Refusal.{Refusal}
use Rattle.trace_format.specs.Catalogs.{AreEvents}
use Rattle.trace_format.specs.Definitions.{Definition}
use Rattle.tracer_specification.proofs.EventLists.{AreEvents-push}
use Rattle.tracer_specification.specs.History.{answer_with_room}
use Rattle.tracer_specification.specs.Pasts.{AreDone}
use Rattle.tracer_specification.specs.Settings.{declared_events, declares}
use Rattle.tracer.specs.Lives.{live_answer, most_done}
use Rattle.mount_replies.proofs.AnswerLemmas.{may-noting}
use Rattle.mount_replies.proofs.NewEvents.{declared-new}
use Rattle.mount_replies.proofs.RunLemmas.{any-lines, lines-keep}
use Rattle.mount_replies.proofs.TurnLemmas.{call-keeps, call_step, room-within, turns-keep}
use Rattle.mount_replies.specs.Calls.{Called, Exchanged, IsTurned, Shows, Turn}
use Rattle.mount_replies.specs.Mounted.{AreServed, Does, IsExchanged, MayAnswer, Right, TellsOwed, Unframed, Wrong, past_after}
use Rattle.mount_replies.specs.Owed.{Owed, ReplyAt, WakeupAt, owed}
use Rattle.mount_replies.specs.PastLaws.{PastsAreDone, WasDone, just_mounted}
use Rattle.mount_replies.specs.Services.{Service, Terms}
use Rattle.mount_replies.specs.ShownTexts.{shown_step}
use Rattle.mount_replies.specs.Steps.{Asks, AsksLines, AsksNoting, Counts, Interrupts, Parks, Plain, Step, Takes, Tells}

-- ---- answers

-- what is done has room, and is done without a limit
pub had-room : (g : Config) (past : List Request) (request : Request) (answer : Answer) → live_answer g past request ≡ Ok answer
    → (answer_with_room g past request ≡ Ok answer) × (length past < most_done)
had-room g past request answer is = room-within most_done g past request answer is

pub one-more : (g : Terms) (past : List Request) (request : Request) (answer : Result Answer Refusal) → WasDone g past → MayAnswer g past request answer
    → WasDone g (past_after answer request past)
one-more g past request (Err refusal) was answered = was
one-more g past request (Ok answer) was answered =
    let done = had-room g.config past request answer answered in
    record { done = (rw done.0 refl, was.done); few = omega (arith, done.1) }

-- ---- steps

does-done : (g : Terms) (before : Service) (step : Step) (reply : Option Reply) (after : Service) → WasDone g before.past → Does g before step reply after
    → WasDone g after.past
does-done g before (Plain outcome) reply after was does = subst (WasDone g) (sym (ap (λ (s : Service). s.past) does.1)) was
does-done g before (Takes outcome) reply after was (inl does) = subst (WasDone g) (sym (ap (λ (s : Service). s.past) does.1)) was
does-done g before (Takes outcome) reply after was (inr does) = subst (WasDone g) (sym (ap (λ (s : Service). s.past) does.1)) was
does-done g before (Asks request outcome) reply after was (answer, answered, told, is) =
    subst (WasDone g) (sym (ap (λ (s : Service). s.past) is)) (one-more g before.past request answer was answered.reply)
does-done g before (Parks read) reply after was (inl does) = subst (WasDone g) (sym (ap (λ (s : Service). s.past) does.1)) was
does-done g before (Parks read) reply after was (inr does) = subst (WasDone g) (sym (ap (λ (s : Service). s.past) does.1)) was
does-done g before (Interrupts unique) reply after was does = subst (WasDone g) (sym (ap (λ (s : Service). s.past) does.1)) was
does-done g before (AsksNoting request takes outcome noting) reply after was (answer, answered, told, is) =
    subst (WasDone g) (sym (ap (λ (s : Service). s.past) is))
    (one-more g before.past request answer was (may-noting g before.past request takes noting answer answered))
does-done g before (Tells noting takes outcome) reply after was (inl does) = subst (WasDone g) (sym (ap (λ (s : Service). s.past) does.1)) was
does-done g before (Tells noting takes outcome) reply after was (inr (may, told, same)) = subst (WasDone g) (sym (ap (λ (s : Service). s.past) same)) was
does-done g before (AsksLines lines outcome noting) reply after was (ran, runs, told, is) =
    subst (WasDone g) (sym (ap (λ (s : Service). s.past) is))
    (lines-keep g (WasDone g) (λ request. Unit {0}) (λ now request answer done any answered. one-more g now request (Ok answer) done answered) before.past lines ran
    (any-lines lines) was runs)
does-done g before (Counts count outcome) reply after was (inl does) = subst (WasDone g) (sym (ap (λ (s : Service). s.past) does.1)) was
does-done g before (Counts count outcome) reply after was (inr does) = subst (WasDone g) (sym (ap (λ (s : Service). s.past) does.1)) was

owed-done : (g : Terms) (before : Service) (what : Option Owed) (bytes : List ℕ) (after : Service) → WasDone g before.past → TellsOwed g before what bytes after
    → WasDone g after.past
owed-done g before None bytes after was told = absurd told
owed-done g before (Some (ReplyAt index)) bytes after was told = does-done g _ _ (Some told.reply) after was told.does
owed-done g before (Some (WakeupAt handle)) bytes after was told = subst (WasDone g) (sym (ap (λ (s : Service). s.past) told.now)) was

served-done : (g : Terms) (before : Service) (asked bytes : List ℕ) (after : Service) → WasDone g before.past → AreServed g before asked bytes after
    → WasDone g after.past
served-done g before asked bytes after was (Right request is served) = does-done g before _ served.reply after was served.does
served-done g before asked bytes after was (Wrong opcode unique framed none told same) = subst (WasDone g) (sym (ap (λ (s : Service). s.past) same)) was
served-done g before asked bytes after was (Unframed none told same) = subst (WasDone g) (sym (ap (λ (s : Service). s.past) same)) was

pub exchange-done : (g : Terms) (before : Service) (asked bytes : List ℕ) (after : Service) → WasDone g before.past → IsExchanged g before asked bytes after
    → WasDone g after.past
exchange-done g before [] bytes after was is = owed-done g before (owed g before) bytes after was is
exchange-done g before (byte ∷ asked) bytes after was is = served-done g before (byte ∷ asked) bytes after was is.1

pub turn-done : (g : Terms) (before : Service) (turn : Turn) (after : Service) → WasDone g before.past → IsTurned g before turn after → WasDone g after.past
turn-done g before (Exchanged asked bytes) after was is = exchange-done g before asked bytes after was is
turn-done g before (Called limit request answer) after was is =
    call-keeps g (λ (s : Service). WasDone g s.past) before limit request answer after was
    (does-done g before (call_step g before request) (Some replies.Done) after was) is
turn-done g before (Shows shown asked bytes) after was is =
    does-done g before (shown_step g before is.request.unique shown is.request.operation) is.reply after was is.does

pub pasts_are_done : PastsAreDone
pasts_are_done g turns after is =
    turns-keep g (λ (s : Service). WasDone g s.past) (turn-done g) just_mounted turns after (record { done = tt; few = omega arith }) is

-- ---- events

-- the events that were declared have names, and no two have one
pub events-are : (g : Config) (past : List Request) → AreDone g past → AreEvents [] (declared_events past)
events-are g [] done = tt
events-are g (request ∷ past) done = by (declares request) refl (events-are g past done.1)
  where
    by : (declared : Option Definition) → declares request ≡ declared → AreEvents [] (declared_events past) → AreEvents [] (declared_events (request ∷ past))
    by None is before = rw (is, append-nil) before
    by (Some event) is before =
        rw is (AreEvents-push [] (declared_events past) event before (declared-new g past request event done.0 is))
