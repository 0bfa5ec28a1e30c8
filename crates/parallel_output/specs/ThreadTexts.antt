-- What a thread's commands come to, which stand in lines of these numbers. The commands are no longer there, only the numbers of their lines.
use Rattle.std.specs.Prelude.{ℕ, Bool, true, false, List, [], ◌∷◌, ◌++◌, Result}
use Rattle.trace_command.specs.declared.command.Reply.{Reply}
use Rattle.trace_command.specs.declared.refusal.Refusal.{Refusal}
use Rattle.parallel_output.specs.ThreadLines.{outcome_of}
use Rattle.parallel_output.specs.declared.outcome_at.OutcomeAt.{OutcomeAt}
use Rattle.trace_script.specs.Rendering.{rendered}

-- what is written for replies to commands that stand in lines of these numbers
abbrev pub numbered_text : List ℕ → List (Result Reply Refusal) → List ℕ
numbered_text (number ∷ numbers) (reply ∷ replies) = rendered number (outcome_of reply) ++ numbered_text numbers replies
numbered_text _ _ = []

-- what became of the command in the line of this number
abbrev pub outcome_at : ℕ → Result Reply Refusal → OutcomeAt
outcome_at number reply = record { number = number; outcome = outcome_of reply }

-- likewise for commands that stand in lines of these numbers
abbrev pub numbered_outcomes : List ℕ → List (Result Reply Refusal) → List OutcomeAt
numbered_outcomes (number ∷ numbers) (reply ∷ replies) = outcome_at number reply ∷ numbered_outcomes numbers replies
numbered_outcomes _ _ = []

-- the outcomes, if somebody is told
abbrev pub told_if : Bool → List OutcomeAt → List OutcomeAt
told_if true outcomes = outcomes
told_if false outcomes = []
