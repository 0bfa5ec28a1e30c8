-- What is computed of a step is what it does.
use Rattle.std.proofs.Common.{inl, ℕ, List, [], ◌∷◌, Result, Ok, Err, refl}
use Rattle.trace_command.specs.Requests.{Request}
use Rattle.trace_command.specs.declared.command.Reply.{Reply as Answer}
use Rattle.trace_command.specs.declared.refusal.Refusal.{Refusal}
use Rattle.tracer.specs.Lives.{live_answer}
use Rattle.mount_replies.proofs.AnswerLemmas.{own-answer}
use Rattle.mount_replies.specs.ComputedSteps.{StepsAreComputed, answered_line, run_line, run_lines}
use Rattle.mount_replies.specs.Mounted.{GoesOnIf, IsLineRun, IsRun}
use Rattle.mount_replies.specs.Services.{Terms}
use Rattle.mount_replies.specs.Steps.{Asking, Asks, AsksFor, AsksLines, AsksNothing, AsksNoting, Counts, Interrupts, IsTooLong, IsWrongLine, LineAsked, Parks, Plain, Takes, Tells}

module _ (g : Terms) (past : List Request) (done : ℕ) (line : LineAsked) (lines : List LineAsked)
    (rest : (now : List Request) → IsRun g now line.end lines (run_lines g now line.end lines)) where
  goes-on : (request : Request) (answer : Result Answer Refusal)
      → GoesOnIf past done line.text request (λ (now : List Request). IsRun g now line.end lines (answered_line past done line.text request (λ (n : List Request). run_lines g n line.end lines) answer))
      (answered_line past done line.text request (λ (n : List Request). run_lines g n line.end lines) answer) answer
  goes-on request (Ok answer) = rest (request ∷ past)
  goes-on request (Err refusal) = refl

  pub line-run : (asking : Asking)
      → IsLineRun g past done line.text
      (λ (now : List Request). IsRun g now line.end lines (run_line g past done line.text (λ (n : List Request). run_lines g n line.end lines) asking))
      (run_line g past done line.text (λ (n : List Request). run_lines g n line.end lines) asking) asking
  line-run AsksNothing = rest past
  line-run IsWrongLine = inl refl
  line-run IsTooLong = inl refl
  line-run (AsksFor request) =
      (live_answer g.config past request, inl (own-answer (live_answer g.config past request) g past request refl), goes-on request (live_answer g.config past request))

lines-run : (g : Terms) (past : List Request) (done : ℕ) (lines : List LineAsked) → IsRun g past done lines (run_lines g past done lines)
lines-run g past done [] = refl
lines-run g past done (line ∷ lines) = line-run g past done line lines (λ now. lines-run g now line.end lines) line.asking

pub steps_are_computed : StepsAreComputed
steps_are_computed g s (Plain outcome) = (refl, refl)
steps_are_computed g s (Takes outcome) = inl (refl, refl)
steps_are_computed g s (Asks request outcome) =
    (live_answer g.config s.past request, own-answer (live_answer g.config s.past request) g s.past request refl, refl, refl)
steps_are_computed g s (Parks read) = inl (refl, refl)
steps_are_computed g s (Interrupts unique) = (refl, refl)
steps_are_computed g s (AsksNoting request takes outcome noting) =
    (live_answer g.config s.past request, inl (own-answer (live_answer g.config s.past request) g s.past request refl), refl, refl)
steps_are_computed g s (Tells noting takes outcome) = inl (refl, refl)
steps_are_computed g s (AsksLines lines outcome noting) = (run_lines g s.past 0 lines, inl (lines-run g s.past 0 lines), refl, refl)
steps_are_computed g s (Counts count outcome) = inl (refl, refl)
