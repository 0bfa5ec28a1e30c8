-- What becomes of a line whose command was answered.
use Rattle.std.specs.Prelude.{◌≡◌, ◌≢◌, ℕ, List, Option, Some, Result, MatchResult}
use Rattle.ticket_lock.specs.declared.views.View.{View}
use Rattle.trace_command.specs.declared.command.Config.{Config}
use Rattle.trace_command.specs.declared.command.Entry.{Entry}
use Rattle.trace_command.specs.declared.command.Reply.{Reply}
use Rattle.trace_command.specs.declared.refusal.Refusal.{Refusal}
use Rattle.trace_command.specs.declared.refusal.Refusal.TheVariants.{Memory, Worn}
use Rattle.trace_session.specs.Passes.{IsSessionPass, progress_of}
use Rattle.trace_session.specs.Sessions.{Progress, turn_of}
use Rattle.trace_script.specs.declared.outcome.Outcome.{Outcome}
use Rattle.trace_script.specs.declared.outcome.Outcome.TheVariants.{Replied, Refused}

-- the outcome is the reply, or the refusal unless the session stops at it
abbrev pub IsTold : Result Reply Refusal → Option Outcome → Type 0
IsTold answer outcome =
    MatchResult answer (λ reply. outcome ≡ Some (Replied reply))
    (λ refusal. (outcome ≡ Some (Refused refusal)) × (refusal ≢ Memory) × (refusal ≢ Worn))

-- the turn of a line whose command was answered so, by a session's pass with this view, leads to this progress
abbrev pub IsTurnOf : View Entry → List ℕ → Result Reply Refusal → Progress → Type 0
IsTurnOf view line answer after =
    (outcome : Option Outcome) → IsTold answer outcome → (g : Config) → IsSessionPass g view
    → turn_of g (progress_of view) line ≡ record { outcome = outcome; progress = after }
