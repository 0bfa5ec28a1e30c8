-- Commands of which only whether they were done is told.
use Rattle.std.specs.Prelude.{List, Result, Ok, Err}
use Rattle.trace_command.specs.Requests.{Request}
use Rattle.trace_command.specs.declared.command.Reply.{Reply as Answer}
use Rattle.trace_command.specs.declared.refusal.Refusal.{Refusal}
use Rattle.mount_replies.specs.Mounted.{HasLedTo, IsAsked, MountSeen}

-- a command was asked, and answered by some reply where it was done, and by this refusal where it was refused
abbrev pub IsAskedUntold : List Request → MountSeen → MountSeen → Request → Result Unit Refusal → Type 0
IsAskedUntold past old new request (Ok done) = (answer : Answer) × IsAsked past old new request (Ok answer)
IsAskedUntold past old new request (Err refusal) = IsAsked past old new request (Err refusal)

-- the same for all requests that can have led to it
abbrev pub AsksUntold : MountSeen → MountSeen → Request → Result Unit Refusal → Type 0
AsksUntold old new request result = (past : List Request) → HasLedTo past old → IsAskedUntold past old new request result
