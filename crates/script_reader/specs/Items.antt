-- A script as items, in the order of its lines: lines by themselves, and parts whose threads run side by side.
use Rattle.std.specs.Prelude.{ℕ, zero, suc, ◌+◌, ◌==◌, ◌≢◌, Bool, true, false, if◌then◌else◌, List, [], ◌∷◌, length, All, Option, Some, None, Result, Ok, Err}
use Rattle.std.specs.List.{list_any}
use Rattle.trace_script.specs.Lines.{line_of}
use Rattle.trace_script.specs.declared.fault.ScriptFault.{ScriptFault}
use Rattle.trace_script.specs.declared.fault.ScriptFault.TheVariants.{BlockOutOfPlace, TooManyThreads}
use Rattle.trace_script.specs.declared.line.Line.{Line}
use Rattle.trace_script.specs.declared.line.Line.TheVariants.{Blank, Ask, Parallel, Thread, End}
use Rattle.script_reader.specs.ScriptLines.{lines_of}
use Rattle.script_reader.specs.declared.part.FaultAt.{FaultAt}
use Rattle.script_reader.specs.declared.part.Numbered.{Numbered}

-- an item: a line by itself with its number, a part with the commands of each of its threads, or a part with a fault
pub data Item : Type 0 where
  Single : (number : ℕ) (line : List ℕ) → Item
  Threads : (threads : List (List Numbered)) → Item
  Faulty : (at : FaultAt) → Item

-- ---- the lines of a part, behind that of `parallel` and before that of `end`

-- the most threads that a part may have
abbrev pub most_threads : ℕ
most_threads = 8

-- how many threads there are after a line
abbrev pub threads_after : ℕ → Result Line ScriptFault → ℕ
threads_after threads (Ok Thread) = threads + 1
threads_after threads _ = threads

-- what is wrong with a line of a part, where so many threads have begun before it
abbrev pub fault_after : ℕ → Result Line ScriptFault → Option ScriptFault
fault_after threads (Ok Blank) = None
fault_after threads (Ok (Ask command)) = if threads == 0 then Some BlockOutOfPlace else None
fault_after threads (Ok Parallel) = Some BlockOutOfPlace
fault_after threads (Ok Thread) = if threads == most_threads then Some TooManyThreads else None
fault_after threads (Ok End) = Some BlockOutOfPlace
fault_after threads (Err fault) = Some fault

-- the fault of the earliest line that has one
abbrev pub or_later : ℕ → Option ScriptFault → Option FaultAt → Option FaultAt
or_later number (Some fault) later = Some (record { number = number; fault = fault })
or_later number None later = later

-- the first fault of lines from this number on, where so many threads have begun before them
abbrev pub first_fault : ℕ → ℕ → List (List ℕ) → Option FaultAt
first_fault number threads [] = None
first_fault number threads (line ∷ lines) =
    or_later number (fault_after threads (line_of line)) (first_fault (number + 1) (threads_after threads (line_of line)) lines)

-- a line before the commands of lines up to the next `thread`
abbrev pub own_with : ℕ → Result Line ScriptFault → List Numbered → List Numbered
own_with number (Ok (Ask command)) own = record { number = number; command = command } ∷ own
own_with number (Ok Thread) own = []
own_with number _ own = own

-- the commands of lines from this number on, up to the next `thread`
abbrev pub own_commands : ℕ → List (List ℕ) → List Numbered
own_commands number [] = []
own_commands number (line ∷ lines) = own_with number (line_of line) (own_commands (number + 1) lines)

-- a line before threads: a `thread` begins one more, with these commands
abbrev pub threads_with : Result Line ScriptFault → List Numbered → List (List Numbered) → List (List Numbered)
threads_with (Ok Thread) own threads = own ∷ threads
threads_with _ own threads = threads

-- for each `thread` of lines from this number on, its commands
abbrev pub threads_of : ℕ → List (List ℕ) → List (List Numbered)
threads_of number [] = []
threads_of number (line ∷ lines) = threads_with (line_of line) (own_commands (number + 1) lines) (threads_of (number + 1) lines)

-- ---- the whole script

-- the line ends a part
abbrev pub ends_with : Result Line ScriptFault → Bool
ends_with (Ok End) = true
ends_with _ = false

abbrev pub is_end : List ℕ → Bool
is_end line = ends_with (line_of line)

-- a part of these lines: its fault, or its threads
abbrev pub part_with : Option FaultAt → List (List Numbered) → Item
part_with (Some at) threads = Faulty at
part_with None threads = Threads threads

abbrev pub part_of : ℕ → List (List ℕ) → Item
part_of number lines = part_with (first_fault number 0 lines) (threads_of number lines)

-- the lines before the first `end`
abbrev pub before_end : List (List ℕ) → List (List ℕ)
before_end [] = []
before_end (line ∷ lines) = if is_end line then [] else line ∷ before_end lines

-- the lines behind it
abbrev pub after_end : List (List ℕ) → List (List ℕ)
after_end [] = []
after_end (line ∷ lines) = if is_end line then lines else after_end lines

-- an item, and the number of lines that it takes behind its first
pub record Taken : Type 0 where
  pub item : Item
  pub behind : ℕ

-- A `parallel` begins a part that reaches to the first later `end`. Where none comes it is a line by itself, and out of place. Every other
-- line is one by itself too.
abbrev pub begun : ℕ → List ℕ → Bool → List (List ℕ) → Taken
begun number line false own = record { item = Single number line; behind = 0 }
begun number line true own = record { item = part_of (number + 1) own; behind = length own + 1 }

abbrev pub taken_at : ℕ → List ℕ → Result Line ScriptFault → List (List ℕ) → Taken
taken_at number line (Ok Parallel) lines = begun number line (list_any is_end lines) (before_end lines)
taken_at number line _ lines = record { item = Single number line; behind = 0 }

-- the item that begins with this line of this number, before these lines
unfoldable pub item_at : ℕ → List ℕ → List (List ℕ) → Taken
item_at number line lines = taken_at number line (line_of line) lines

-- the items of lines from this number on, of which the first few are taken already
abbrev pub items_from : ℕ → ℕ → List (List ℕ) → List Item
items_from number taken [] = []
items_from number (suc taken) (line ∷ lines) = items_from (number + 1) taken lines
items_from number zero (line ∷ lines) =
    let first = item_at number line lines in
    first.item ∷ items_from (number + 1) first.behind lines

-- the items of a script, whose lines are numbered from 1
unfoldable pub items_of : List ℕ → List Item
items_of script = items_from 1 0 (lines_of script)

-- no line of the script begins a part
abbrev pub HasNoPart : List ℕ → Type 0
HasNoPart script = All (λ line. line_of line ≢ Ok Parallel) (lines_of script)
