-- What the code that writes for a part promises. It no longer has the commands, only the numbers of their lines.
use Rattle.std.specs.Prelude.{◌≡◌, Vec, ℕ, ◌+◌, List, [], ◌∷◌, ◌++◌, map, flat_map, length, Option, Some, Result}
use Rattle.std.specs.declared.alloc.Global.{Global}
use Rattle.trace_command.specs.declared.command.Reply.{Reply}
use Rattle.trace_command.specs.declared.refusal.Refusal.{Refusal}
use Rattle.script_reader.specs.AskingLines.{command_in}
use Rattle.script_reader.specs.declared.part.Numbered.{Numbered}
use Rattle.parallel_output.specs.ThreadLines.{thread_line}
use Rattle.parallel_output.specs.ThreadTexts.{numbered_text, numbered_outcomes}
use Rattle.parallel_output.specs.declared.outcome_at.OutcomeAt.{OutcomeAt}
use Rattle.trace_script.specs.declared.outcome.Outcome.{Outcome}
use Rattle.trace_command.specs.Commands.{Command}
use Rattle.trace_session.specs.declared.part_line.AskedLine.{AskedLine}
use Rattle.trace_workers.specs.declared.part.Part.{Part}

-- what became of the commands of threads, which stand in lines of these numbers
abbrev pub outcomes_of_threads : List (List ℕ) → List (List (Result Reply Refusal)) → List OutcomeAt
outcomes_of_threads (own ∷ numbers) (replies ∷ more) = numbered_outcomes own replies ++ outcomes_of_threads numbers more
outcomes_of_threads _ _ = []

-- what is written for threads from this one on, whose commands stand in lines of these numbers
abbrev pub numbered_threads : ℕ → List (List ℕ) → List (List (Result Reply Refusal)) → List ℕ
numbered_threads thread (own ∷ numbers) (replies ∷ more) = thread_line thread ++ numbered_text own replies ++ numbered_threads (thread + 1) numbers more
numbered_threads thread _ _ = []

-- the replies of each part of a block
abbrev pub replies_in : List Part → List (List (Result Reply Refusal))
replies_in done = map (λ (part : Part). part.replies.items) done

-- the items of each
abbrev pub items_in : {X : Type 0} → List (Vec X Global) → List (List X)
items_in {X} all = map (λ (own : Vec X Global). own.items) all

-- there is a number for each reply
abbrev pub AreNumbered : List (List ℕ) → List (List (Result Reply Refusal)) → Type 0
AreNumbered numbers replies = map (λ (own : List ℕ). length own) numbers ≡ map (λ (own : List (Result Reply Refusal)). length own) replies

-- the outcomes of the threads' commands, each with the number of its command's line
pub record AreOutcomesOf (threads : List (List Numbered)) (became : List (Option Outcome)) (told : List OutcomeAt) : Type 0 where
  pub numbers : map (λ (one : OutcomeAt). one.number) told ≡ flat_map (map (λ (asked : Numbered). asked.number)) threads
  pub outcomes : map (λ (one : OutcomeAt). Some one.outcome) told ≡ became

-- the command that a line asks for, which a part's thread keeps
abbrev pub asked_command : AskedLine → Command
asked_command asked = command_in asked.line.now
