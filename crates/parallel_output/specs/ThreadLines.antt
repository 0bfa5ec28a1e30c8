-- A thread's line, and what became of a command of a thread.
use Rattle.std.specs.Prelude.{ℕ, List, ◌++◌, Result, Ok, Err, codes}
use Rattle.std.specs.Fmt.{decimal}
use Rattle.trace_command.specs.declared.command.Reply.{Reply}
use Rattle.trace_command.specs.declared.refusal.Refusal.{Refusal}
use Rattle.trace_script.specs.declared.outcome.Outcome.{Outcome}
use Rattle.trace_script.specs.declared.outcome.Outcome.TheVariants as outcomes

-- `-- thread K`, and a newline
abbrev pub thread_line : ℕ → List ℕ
thread_line thread = codes "-- thread " ++ decimal thread ++ codes "\n"

-- what became of a command
abbrev pub outcome_of : Result Reply Refusal → Outcome
outcome_of (Ok reply) = outcomes.Replied reply
outcome_of (Err refusal) = outcomes.Refused refusal
