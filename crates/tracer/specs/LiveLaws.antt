-- A tracer that keeps no history answers as a book does.
use Rattle.std.specs.Prelude.{◌≡◌, ◌≢◌, List, ◌∷◌, ◌++◌, Err}
use Rattle.trace_command.specs.Configs.{IsInRange}
use Rattle.trace_command.specs.Requests.{request_of}
use Rattle.trace_command.specs.Commands.{Command}
use Rattle.trace_command.specs.declared.command.Config.{Config}
use Rattle.trace_command.specs.declared.command.Entry.{Entry}
use Rattle.trace_command.specs.declared.refusal.Refusal.TheVariants.{HistoryFull}
use Rattle.tracer_specification.specs.History.{answer_to, past_of, IsLegal}
use Rattle.tracer_specification.specs.Pasts.{AreDone}
use Rattle.tracer.specs.Lives.{limited_answer, live_answer}

-- the requests of a legal history were done one after another, as `IsLive` says of those that led to a tracer
abbrev pub LegalHistoriesWereDone : Type 0
LegalHistoriesWereDone = (g : Config) (entries : List Entry) → IsLegal g entries → AreDone g (past_of entries)

-- each command of a legal history is answered as the book answered it, so it is done
abbrev pub HistoriesAreAnsweredAlike : Type 0
HistoriesAreAnsweredAlike =
    (g : Config) (before after : List Entry) (entry : Entry) → IsInRange g → IsLegal g (before ++ entry ∷ after)
    → live_answer g (past_of before) (request_of entry.command) ≡ answer_to g before entry.command

-- and any command is answered as by a book, unless that answers HistoryFull
abbrev pub RefusalsAreAlike : Type 0
RefusalsAreAlike =
    (g : Config) (entries : List Entry) (command : Command) → IsInRange g → answer_to g entries command ≢ Err HistoryFull
    → live_answer g (past_of entries) (request_of command) ≡ answer_to g entries command

-- asked within the limit of a book's history, it answers as the book does
abbrev pub LimitsAreAlike : Type 0
LimitsAreAlike =
    (g : Config) (entries : List Entry) (command : Command)
    → limited_answer g.history_limit g (past_of entries) (request_of command) ≡ answer_to g entries command
