-- The turn of a line whose command was answered, as the pass of a session tells it.
use Rattle.std.proofs.Common.{◌≡◌, ◌≢◌, ◌∙◌, ◌+◌, ℕ, Bool, false, List, [], ◌∷◌, ◌++◌, Option, Some, Result, Ok, Err, IfOk, IfErr, refl, ap, sym, subst, append-nil, arith}
use Rattle.ticket_lock.specs.declared.views.View.{View}
use Rattle.shared_book.specs.Asks.{IsDone, IsRefused}
use Rattle.trace_command.specs.Commands.{Command}
use Rattle.trace_command.specs.declared.command.Config.{Config}
use Rattle.trace_command.specs.declared.command.Entry.{Entry}
use Rattle.trace_command.specs.declared.command.Reply.{Reply}
use Rattle.trace_command.specs.declared.refusal.Refusal.{Refusal}
use Rattle.trace_command.specs.declared.refusal.Refusal.TheVariants as refusals
use Rattle.tracer_specification.specs.History.{answer_to}
use Rattle.trace_script.specs.Lines.{line_of}
use Rattle.trace_script.specs.declared.line.Line.TheVariants.{Ask}
use Rattle.trace_script.specs.declared.outcome.Outcome.{Outcome}
use Rattle.trace_script.specs.declared.outcome.Outcome.TheVariants as outcomes
use Rattle.trace_session.specs.Passes.{IsSessionPass, progress_of}
use Rattle.trace_session.specs.private.AnswersTold.{IsTold}
use Rattle.trace_session.specs.Sessions.{Progress, answered, entry_of, is_fault, so_far, taken, turn_of}

done_turn : (g : Config) (v w : View Entry) (command : Command) (reply : Reply) (text : List ℕ) → IsSessionPass g v → IsDone v w command reply
    → line_of text ≡ Ok (Ask command) → turn_of g (progress_of v) text ≡ record { outcome = Some (outcomes.Replied reply); progress = progress_of w }
unfolding turn_of
done_turn g v w command reply text pass done said =
    let none = done.alone pass.names in
    let before : v.seen ++ done.others ≡ v.seen = ap (λ (others : List Entry). v.seen ++ others) none ∙ append-nil v.seen in
    let after = done.done g pass.base in
    let seen : w.seen ≡ v.seen ++ done.entry ∷ [] = done.seen ∙ ap (λ (es : List Entry). es ++ done.entry ∷ []) before in
    let front : w.front ≡ v.front + 1 = done.rises.all_names pass.names in
    let ticket : done.entry.ticket ≡ v.front = omega (arith, done.ticket, front) in
    let entry : done.entry ≡ entry_of (progress_of v) command = rw (sym ticket, sym after.of_command, sym pass.names.0, sym after.of_caller) refl in
    let answer : answer_to g v.seen command ≡ Ok reply = subst (λ (es : List Entry). answer_to g es command ≡ Ok reply) before after.answer in
    ap (taken g (progress_of v)) said
    ∙ ap (answered (progress_of v) command) answer
    ∙ ap (λ (e : Entry). record { outcome = Some (outcomes.Replied reply); progress = so_far (v.seen ++ e ∷ []) (v.front + 1) }) (sym entry)
    ∙ ap (λ (es : List Entry). record { outcome = Some (outcomes.Replied reply); progress = so_far es (v.front + 1) }) (sym seen)
    ∙ ap (λ (n : ℕ). record { outcome = Some (outcomes.Replied reply); progress = so_far w.seen n }) (sym front)

refused_turn : (g : Config) (v w : View Entry) (command : Command) (refusal : Refusal) (text : List ℕ) → refusal ≢ refusals.Memory → refusal ≢ refusals.Worn
    → IsSessionPass g v → IsRefused v w command refusal → line_of text ≡ Ok (Ask command)
    → turn_of g (progress_of v) text ≡ record { outcome = Some (outcomes.Refused refusal); progress = progress_of w }
unfolding turn_of
refused_turn g v w command refusal text no_memory not_worn pass refused said =
    let seen : w.seen ≡ v.seen = refused.seen ∙ (ap (λ (others : List Entry). v.seen ++ others) (refused.alone pass.names) ∙ append-nil v.seen) in
    let front : w.front ≡ v.front + 1 = (refused.rises not_worn).all_names pass.names in
    let answer : answer_to g v.seen command ≡ Err refusal =
    subst (λ (es : List Entry). answer_to g es command ≡ Err refusal) seen (refused.answer g pass.base no_memory not_worn) in
    ap (taken g (progress_of v)) said
    ∙ ap (answered (progress_of v) command) answer
    ∙ ap (λ (es : List Entry). record { outcome = Some (outcomes.Refused refusal); progress = so_far es (v.front + 1) }) (sym seen)
    ∙ ap (λ (n : ℕ). record { outcome = Some (outcomes.Refused refusal); progress = so_far w.seen n }) (sym front)

pub told_turn : (g : Config) (v w : View Entry) (command : Command) (answer : Result Reply Refusal) (text : List ℕ) → IsSessionPass g v
    → IfOk answer (IsDone v w command) → IfErr answer (IsRefused v w command) → line_of text ≡ Ok (Ask command) → (outcome : Option Outcome) → IsTold answer outcome
    → turn_of g (progress_of v) text ≡ record { outcome = outcome; progress = progress_of w }
told_turn g v w command (Ok reply) text pass done refused said outcome told =
    done_turn g v w command reply text pass done said ∙ ap (λ (o : Option Outcome). record { outcome = o; progress = progress_of w }) (sym told)
told_turn g v w command (Err refusal) text pass done refused said outcome told =
    refused_turn g v w command refusal text told.1 told.2 pass refused said
    ∙ ap (λ (o : Option Outcome). record { outcome = o; progress = progress_of w }) (sym told.0)

pub told_faultless : (answer : Result Reply Refusal) (outcome : Option Outcome) → IsTold answer outcome → is_fault outcome ≡ false
told_faultless (Ok reply) outcome told = ap is_fault told
told_faultless (Err refusal) outcome told = ap is_fault told.0
