-- The numbers of what a mounted tracer did fit their types.
use Rattle.std.proofs.Common.{inl, inr, ℕ, ◌%◌, ◌^◌, ◌<◌, ◌≤◌, List, [], ◌∷◌, Option, Some, None, Result, Ok, Err, sym, subst, arith}
use Rattle.std.specs.List.{All}
use Rattle.std.proofs.lemmas.List.Elements.{All-cons, All-head, All-nil, All-tail}
use Rattle.fuse_wire.specs.declared.reply.Reply.{Reply}
use Rattle.trace_command.specs.Configs.{IsInRange}
use Rattle.trace_command.specs.Requests.{FitsItsTypes, Request}
use Rattle.trace_command.specs.declared.command.Reply.{Reply as Answer}
use Rattle.trace_command.specs.declared.refusal.Refusal.{Refusal}
use Rattle.mount_tree.specs.ScenesAfter.{scene_after}
use Rattle.mount_replies.proofs.AskedSteps.{IsOfEach, IsOfThere, parked-is, step-is}
use Rattle.mount_replies.proofs.RunLemmas.{lines-keep}
use Rattle.mount_replies.proofs.ShownTurns.{shown-rests}
use Rattle.mount_replies.specs.Calls.{CallFits, Called, Exchanged, IsTurned, Shows, TakesTurns, Turn}
use Rattle.mount_replies.specs.Mounted.{AreServed, Does, IsExchanged, Right, TellsOwed, Unframed, Wrong, past_after}
use Rattle.mount_replies.specs.Owed.{Owed, ReplyAt, WakeupAt, owed, step_of_parked}
use Rattle.mount_replies.specs.PastLaws.{PastsFitTheirTypes, just_mounted}
use Rattle.mount_replies.specs.Served.{step_of}
use Rattle.mount_replies.specs.Services.{Service, Terms, without_read}
use Rattle.mount_replies.specs.Steps.{Asks, AsksLines, AsksNoting, Counts, Interrupts, Parks, Plain, Step, Takes, Tells}
use Rattle.mount_replies.specs.declared.counted.Counted.{Counted}

-- ---- what steps ask

cpu-fits : (pid cpus : ℕ) → 1 ≤ cpus → cpus ≤ 8 → pid % cpus < 2 ^ 32
cpu-fits pid cpus some few = omega arith

each-fits : (g : Terms) → IsInRange g.config → IsOfEach g FitsItsTypes
each-fits g range = record {
  whole = λ scene node. tt;
  some = λ scene node most few. few;
  wrote = λ scene node append text. tt;
  made = λ name. tt;
  injected = λ pid event pairs. (cpu-fits pid g.config.cpus range.some_cpus range.few_cpus, record { sfits = omega arith });
}

-- ---- what was done

abbrev Fit : List Request → Type 0
Fit past = All FitsItsTypes past

abbrev any_count : Counted → Type 0
any_count count = Unit {0}

one-fits : (past : List Request) (request : Request) (answer : Result Answer Refusal) → FitsItsTypes request → Fit past → Fit (past_after answer request past)
one-fits past request (Ok answer) fits all = All-cons FitsItsTypes request past fits all
one-fits past request (Err refusal) fits all = all

does-fit : (g : Terms) (before : Service) (step : Step) (reply : Option Reply) (after : Service)
    → IsOfThere FitsItsTypes any_count (scene_after g.config.cpus before.past) step → Fit before.past → Does g before step reply after → Fit after.past
does-fit g before (Plain outcome) reply after of all does = subst (λ (s : Service). Fit s.past) (sym does.1) all
does-fit g before (Takes outcome) reply after of all (inl does) = subst (λ (s : Service). Fit s.past) (sym does.1) all
does-fit g before (Takes outcome) reply after of all (inr does) = subst (λ (s : Service). Fit s.past) (sym does.1) all
does-fit g before (Asks request outcome) reply after of all (answer, answered, told, is) =
    subst (λ (s : Service). Fit s.past) (sym is) (one-fits before.past request answer of all)
does-fit g before (Parks read) reply after of all (inl does) = subst (λ (s : Service). Fit s.past) (sym does.1) all
does-fit g before (Parks read) reply after of all (inr does) = subst (λ (s : Service). Fit s.past) (sym does.1) all
does-fit g before (Interrupts unique) reply after of all does = subst (λ (s : Service). Fit s.past) (sym does.1) all
does-fit g before (AsksNoting request takes outcome noting) reply after (inl of) all (answer, answered, told, is) =
    subst (λ (s : Service). Fit s.past) (sym is) (one-fits before.past request answer of.0 all)
does-fit g before (AsksNoting request takes outcome noting) reply after (inr of) all (answer, answered, told, is) =
    subst (λ (s : Service). Fit s.past) (sym is) (one-fits before.past request answer (subst FitsItsTypes (sym of.is) tt) all)
does-fit g before (Tells noting takes outcome) reply after of all (inl does) = subst (λ (s : Service). Fit s.past) (sym does.1) all
does-fit g before (Tells noting takes outcome) reply after of all (inr (may, told, same)) = subst (λ (s : Service). Fit s.past) (sym same) all
does-fit g before (AsksLines lines outcome noting) reply after of all (ran, runs, told, is) =
    subst (λ (s : Service). Fit s.past) (sym is)
    (lines-keep g Fit FitsItsTypes (λ now request answer holds fits answered. one-fits now request (Ok answer) fits holds) before.past lines ran of.0 all runs)
does-fit g before (Counts count outcome) reply after of all (inl does) = subst (λ (s : Service). Fit s.past) (sym does.1) all
does-fit g before (Counts count outcome) reply after of all (inr does) = subst (λ (s : Service). Fit s.past) (sym does.1) all

module _ (g : Terms) (range : IsInRange g.config) where
  owed-fits : (before : Service) (what : Option Owed) (bytes : List ℕ) (after : Service) → Fit before.past → TellsOwed g before what bytes after → Fit after.past
  owed-fits before None bytes after all told = absurd told
  owed-fits before (Some (ReplyAt index)) bytes after all told =
      does-fit g (without_read index before) (step_of_parked g before told.read) (Some told.reply) after
      (parked-is FitsItsTypes any_count g before (each-fits g range) told.read) all told.does
  owed-fits before (Some (WakeupAt handle)) bytes after all told = subst (λ (s : Service). Fit s.past) (sym told.now) all

  served-fits : (before : Service) (asked bytes : List ℕ) (after : Service) → Fit before.past → AreServed g before asked bytes after → Fit after.past
  served-fits before asked bytes after all (Right request is served) =
      does-fit g before (step_of g before request.unique request.pid served.node request.operation) served.reply after
      (step-is FitsItsTypes any_count g before (each-fits g range) (λ owner file there. tt) request.unique request.pid served.node request.operation) all served.does
  served-fits before asked bytes after all (Wrong opcode unique framed none told same) = subst (λ (s : Service). Fit s.past) (sym same) all
  served-fits before asked bytes after all (Unframed none told same) = subst (λ (s : Service). Fit s.past) (sym same) all

  exchange-fits : (before : Service) (asked bytes : List ℕ) (after : Service) → Fit before.past → IsExchanged g before asked bytes after → Fit after.past
  exchange-fits before [] bytes after all is = owed-fits before (owed g before) bytes after all is
  exchange-fits before (byte ∷ asked) bytes after all is = served-fits before (byte ∷ asked) bytes after all is.1

  turn-fits : (before : Service) (turn : Turn) (after : Service) → CallFits turn → Fit before.past → IsTurned g before turn after → Fit after.past
  turn-fits before (Exchanged asked bytes) after fits all is = exchange-fits before asked bytes after all is
  turn-fits before (Called limit request answer) after fits all is =
      subst (λ (s : Service). Fit s.past) (sym is.1) (one-fits before.past request answer fits all)
  turn-fits before (Shows shown asked bytes) after fits all is =
      subst Fit (sym (shown-rests g before is.request.unique shown is.request.operation is.reply after is.does).past) all

  all-fit : (before : Service) (turns : List Turn) (after : Service) → All CallFits turns → Fit before.past → TakesTurns g before turns after → Fit after.past
  all-fit before [] after fit all is = subst (λ (s : Service). Fit s.past) (sym is) all
  all-fit before (turn ∷ turns) after fit all is =
      all-fit is.0 turns after (All-tail CallFits turn turns fit) (turn-fits before turn is.0 (All-head CallFits turn turns fit) all is.1) is.2

pub pasts_fit_their_types : PastsFitTheirTypes
pasts_fit_their_types g turns after range fit is = all-fit g range just_mounted turns after fit (All-nil FitsItsTypes) is
