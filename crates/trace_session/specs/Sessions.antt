-- What a session writes for a script, and its status.
use Rattle.std.specs.Prelude.{ℕ, ◌+◌, Bool, true, false, if◌then◌else◌, List, [], ◌∷◌, ◌++◌, Option, Some, None, Result, Ok, Err}
use Rattle.std.specs.List.{list_any}
use Rattle.tracer_specification.specs.History.{answer_to}
use Rattle.trace_command.specs.Commands.{Command}
use Rattle.trace_command.specs.declared.command.Config.{Config}
use Rattle.trace_command.specs.declared.command.Entry.{Entry}
use Rattle.trace_command.specs.declared.command.Reply.{Reply}
use Rattle.trace_command.specs.declared.refusal.Refusal.{Refusal}
use Rattle.script_reader.specs.ScriptLines.{lines_of}
use Rattle.trace_script.specs.Lines.{line_of}
use Rattle.trace_script.specs.Rendering.{rendered}
use Rattle.trace_script.specs.declared.fault.ScriptFault.{ScriptFault}
use Rattle.trace_script.specs.declared.fault.ScriptFault.TheVariants.{BlockOutOfPlace}
use Rattle.trace_script.specs.declared.line.Line.{Line}
use Rattle.trace_script.specs.declared.line.Line.TheVariants.{Blank, Ask, Parallel, Thread, End}
use Rattle.trace_script.specs.declared.outcome.Outcome.{Outcome}
use Rattle.trace_script.specs.declared.outcome.Outcome.TheVariants as outcomes
use Rattle.trace_session.specs.declared.status.Status.{Status}
use Rattle.trace_session.specs.declared.status.Status.TheVariants as statuses

-- how far a session has come: the entries done so far, oldest first, and how many commands were asked, done or refused
pub record Progress : Type 0 where
  pub entries : List Entry
  pub asked : ℕ

-- with these entries, and this many commands asked
abbrev pub so_far : List Entry → ℕ → Progress
so_far entries asked = record { entries = entries; asked = asked }

-- what became of a line, if it said anything, and how far the session has come with it
pub record Turn : Type 0 where
  pub outcome : Option Outcome
  pub progress : Progress

-- the entry that a command becomes when it is done: its ticket is the number of commands asked before it, and its caller's number is 0
abbrev pub entry_of : Progress → Command → Entry
entry_of before command = record { ticket = before.asked; by = 0; command = command }

-- a command is done, and becomes the last entry; or it is refused, and leaves the entries as they are
abbrev pub answered : Progress → Command → Result Reply Refusal → Turn
answered before command (Ok reply) =
    record {
      outcome = Some (outcomes.Replied reply);
      progress = so_far (before.entries ++ entry_of before command ∷ []) (before.asked + 1);
    }
answered before command (Err refusal) =
    record { outcome = Some (outcomes.Refused refusal); progress = so_far before.entries (before.asked + 1) }

-- a fault, which leaves all as it was
abbrev pub faulted : Progress → ScriptFault → Turn
faulted before fault = record { outcome = Some (outcomes.Fault fault); progress = before }

-- a line that was read: a command gets the answer that the entries done so far give it, and a line of a parallel part is out of place
abbrev pub taken : Config → Progress → Result Line ScriptFault → Turn
taken config before (Ok Blank) = record { outcome = None; progress = before }
taken config before (Ok (Ask command)) = answered before command (answer_to config before.entries command)
taken config before (Ok Parallel) = faulted before BlockOutOfPlace
taken config before (Ok Thread) = faulted before BlockOutOfPlace
taken config before (Ok End) = faulted before BlockOutOfPlace
taken config before (Err fault) = faulted before fault

-- a line, after what was asked so far
unfoldable pub turn_of : Config → Progress → List ℕ → Turn
turn_of config before line = taken config before (line_of line)

-- a fault ends the session
abbrev pub is_fault : Option Outcome → Bool
is_fault (Some (outcomes.Fault fault)) = true
is_fault _ = false

abbrev pub is_refusal : Option Outcome → Bool
is_refusal (Some (outcomes.Refused refusal)) = true
is_refusal _ = false

-- what becomes of the lines in turn, up to the first fault
abbrev pub outcomes_of : Config → Progress → List (List ℕ) → List (Option Outcome)
outcomes_of config before [] = []
outcomes_of config before (line ∷ lines) =
    let turn = turn_of config before line in
    turn.outcome ∷ (if is_fault turn.outcome then [] else outcomes_of config turn.progress lines)

-- what is written for the line of this number
abbrev pub text_of : ℕ → Option Outcome → List ℕ
text_of number None = []
text_of number (Some outcome) = rendered number outcome

-- what is written for lines that are numbered from this number on
abbrev pub texts_from : ℕ → List (Option Outcome) → List (List ℕ)
texts_from number [] = []
texts_from number (outcome ∷ outcomes) = text_of number outcome ∷ texts_from (number + 1) outcomes

-- a fault is told before a refusal
abbrev pub status_of : List (Option Outcome) → Status
status_of outcomes = if list_any is_fault outcomes then statuses.Fault else (if list_any is_refusal outcomes then statuses.Refused else statuses.Done)

-- what a session writes, a string for each line, and its status
pub record Session : Type 0 where
  pub texts : List (List ℕ)
  pub status : Status

-- before its first line a session has no entry, and nothing was asked
abbrev pub beginning : Progress
beginning = so_far [] 0

-- the session of a script: its lines in turn, numbered from 1
unfoldable pub session : Config → List ℕ → Session
session config script =
    let outcomes = outcomes_of config beginning (lines_of script) in
    record { texts = texts_from 1 outcomes; status = status_of outcomes }

-- all was asked: the session came to its end, or to a fault
abbrev pub IsWhole : Status → Type 0
IsWhole statuses.Memory = ⊥
IsWhole statuses.Device = ⊥
IsWhole statuses.Stopped = ⊥
IsWhole _ = Unit {0}

-- the script was read to its end, and is not too long
abbrev pub IsRead : Status → Type 0
IsRead statuses.Memory = ⊥
IsRead statuses.Device = ⊥
IsRead _ = Unit {0}

-- the status as a number
abbrev pub code_of : Status → ℕ
code_of statuses.Done = 0
code_of statuses.Refused = 1
code_of statuses.Fault = 2
code_of statuses.Memory = 3
code_of statuses.Device = 4
code_of statuses.Stopped = 1
