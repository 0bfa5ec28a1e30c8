-- What a session's pass knows between two items.
use Rattle.std.specs.Prelude.{◌≡◌, ◌<◌, ◌⊎◌, All, IsErr}
use Rattle.ticket_lock.specs.Views.{HasAllNames}
use Rattle.ticket_lock.specs.declared.views.View.{View}
use Rattle.shared_book.specs.Bases.{numbers_of}
use Rattle.trace_command.specs.Refusals.{IsFoundEarly}
use Rattle.trace_command.specs.Requests.{request_of}
use Rattle.trace_command.specs.Commands.{Command}
use Rattle.trace_command.specs.declared.command.Config.{Config}
use Rattle.trace_command.specs.declared.command.Entry.{Entry}
use Rattle.tracer_specification.specs.History.{IsLegal, answer_to}
use Rattle.tracer_specification.specs.LateMemory.{TakesMemoryLate}
use Rattle.trace_session.specs.Sessions.{Progress, so_far}

-- how far the session has come. Its lock's tickets count from 0, so as many were drawn as commands were asked
abbrev pub progress_of : View Entry → Progress
progress_of v = so_far v.seen v.front

-- The pass of a session: it has all names, and its lock is over a book of this configuration. What it has seen is a legal history, with tickets
-- below the next one.
pub record IsSessionPass (g : Config) (v : View Entry) : Type 0 where
  pub names : HasAllNames v
  pub base : numbers_of g ≡ v.base
  pub legal : IsLegal g v.seen
  pub below : All (λ (entry : Entry). entry.ticket < v.front) v.seen

-- the answer to the command is a refusal that is found before any memory is taken: because of what it is, or because of what the command is
abbrev pub IsRefusedEarly : Config → View Entry → Command → Type 0
IsRefusedEarly g v command =
    IsFoundEarly (answer_to g v.seen command) ⊎ (TakesMemoryLate (request_of command) × IsErr (answer_to g v.seen command))
