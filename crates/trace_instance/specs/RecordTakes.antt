-- Reads of records of which no text is made.
use Rattle.std.specs.Prelude.{ℕ, List, Option, Some, Result, Ok, Err}
use Rattle.trace_command.specs.Paths.{File}
use Rattle.trace_command.specs.Requests.{Request}
use Rattle.trace_command.specs.declared.command.Config.{Config}
use Rattle.trace_command.specs.declared.command.Reply.{Reply}
use Rattle.trace_command.specs.declared.refusal.Refusal.{Refusal}
use Rattle.trace_instance.specs.FileAnswers.{IsRead}
use Rattle.trace_instance.specs.declared.change.InstanceChange.{InstanceChange}

-- what a read of at most so many records of a file changes: that of the read which shows them, whatever it shows; or why it is refused
abbrev pub IsTaken : Config → Option (List ℕ) → List Request → ℕ → File → Result InstanceChange Refusal → Type 0
IsTaken g name past most file (Ok change) = (reply : Reply) × IsRead g name past (Some most) file (Ok (record { change = change; reply = reply }))
IsTaken g name past most file (Err refusal) = IsRead g name past (Some most) file (Err refusal)
