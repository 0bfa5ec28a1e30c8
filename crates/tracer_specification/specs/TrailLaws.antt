-- What trails come to.
use Rattle.std.specs.Prelude.{◌≡◌, ◌≢◌, ℕ, List, [], ◌∷◌, ◌++◌, length, Result, Err}
use Rattle.tracer_specification.specs.History.{answer_to, past_of}
use Rattle.tracer_specification.specs.Trails.{IsTrail, commands_of, done_of}
use Rattle.tracer_specification.specs.Blocks.{Trail, IsBlock, IsUnworn}
use Rattle.tracer_specification.specs.Examples.{answers_after}
use Rattle.trace_command.specs.Commands.{Command}
use Rattle.trace_command.specs.declared.command.Config.{Config}
use Rattle.trace_command.specs.declared.command.Entry.{Entry}
use Rattle.trace_command.specs.declared.command.Reply.{Reply}
use Rattle.trace_command.specs.declared.refusal.Refusal.{Refusal}
use Rattle.trace_command.specs.declared.refusal.Refusal.TheVariants.{Memory, Worn}

-- the caller's entries are of just the commands that were done, each once and in the order in which they were asked
abbrev pub TrailsHoldDoneCallsOnce : Type 0
TrailsHoldDoneCallsOnce =
    (g : Config) (by : ℕ) (before after : List Entry) (commands : List Command) (replies : List (Result Reply Refusal))
    → IsTrail g by before after commands replies → commands_of by after ≡ done_of commands replies

-- A call was answered so by what was there before and by the first of what was done since. Among these entries, of the caller's own there are just
-- those of the commands `done`.
pub record IsAnsweredAfter (g : Config) (by : ℕ) (before after : List Entry) (done : List Command) (command : Command) (reply : Result Reply Refusal) : Type 0 where
  pub first : List Entry
  pub since : List Entry
  pub cut : after ≡ first ++ since
  pub own : commands_of by first ≡ done
  pub answer : answer_to g (before ++ first) command ≡ reply

-- each call of a trail, done or refused, was answered so between the caller's done calls: after those that were asked before it, and before all others
abbrev pub EachCallIsAnswered : Type 0
EachCallIsAnswered =
    (g : Config) (by : ℕ) (before after : List Entry) (earlier : List Command) (command : Command) (later : List Command)
    (replies : List (Result Reply Refusal)) (reply : Result Reply Refusal) (rest : List (Result Reply Refusal))
    → length earlier ≡ length replies → IsTrail g by before after (earlier ++ command ∷ later) (replies ++ reply ∷ rest)
    → reply ≢ Err Worn → IsAnsweredAfter g by before after (done_of earlier replies) command reply

-- a caller who is alone, and is never answered Worn, gets the answers to its commands, one after another, as a script does
abbrev pub LoneCallersAreAnswered : Type 0
LoneCallersAreAnswered =
    (g : Config) (before after : List Entry) (trail : Trail)
    → IsBlock g before after (trail ∷ []) → IsUnworn trail.replies → trail.replies ≡ answers_after g (past_of before) trail.commands

-- no history answers that all tickets are drawn
abbrev pub WornIsNoAnswer : Type 0
WornIsNoAnswer = (g : Config) (entries : List Entry) (command : Command) → answer_to g entries command ≢ Err Worn

-- or that memory was refused
abbrev pub MemoryIsNoAnswer : Type 0
MemoryIsNoAnswer = (g : Config) (entries : List Entry) (command : Command) → answer_to g entries command ≢ Err Memory
