-- What a sink hears of one item, told by what the code has of it: the lines that are left, or the string that begins with the item.
use Rattle.std.specs.Prelude.{ℕ, ◌≤◌, List, [], ◌∷◌, map, Option, Some}
use Rattle.std.specs.Option.{option_copied}
use Rattle.trace_command.specs.declared.command.Config.{Config}
use Rattle.script_reader.specs.PartReads.{commands_in, IsLineAt}
use Rattle.script_reader.specs.ScriptLines.{lines_of, lines_left}
use Rattle.script_reader.specs.declared.item.ItemRead.TheVariants as reads
use Rattle.script_reader.specs.declared.item.ItemRead.{ItemRead}
use Rattle.script_reader.specs.declared.lines_from.LinesFrom.{LinesFrom}
use Rattle.parallel_output.specs.declared.outcome_at.OutcomeAt.{OutcomeAt}
use Rattle.trace_script.specs.declared.outcome.Outcome.TheVariants.{Fault}
use Rattle.trace_session.specs.Heard.{Heard, Hears, heard_of, heard_lines, line_at, numbers_in}
use Rattle.trace_session.specs.Parts.{Given}
use Rattle.trace_session.specs.Sessions.{Progress, turn_of}

-- among the lines that are left, the one of this number is this line
abbrev pub IsLeft : LinesFrom → ℕ → List ℕ → Type 0
IsLeft lines number line = IsLineAt lines.number (lines_left (option_copied lines.rest)) number line

-- the line of this number, among the lines that are left
abbrev pub left_at : LinesFrom → ℕ → List ℕ
left_at lines number = line_at lines.number (lines_left (option_copied lines.rest)) number

-- what became of each of these commands, with its line
abbrev pub heard_each : ℕ → List (List ℕ) → Option (List ℕ) → List OutcomeAt → List Heard
heard_each first lines held outcomes =
    map (λ (one : OutcomeAt). heard_of one.number (line_at first lines one.number) (Some one.outcome) held) outcomes

-- each is the number of one of these lines, which are numbered from `first` on; none is below `from`, or below one before it
abbrev pub AreInOrder : ℕ → ℕ → List (List ℕ) → List ℕ → Type 0
AreInOrder from first lines [] = Unit {0}
AreInOrder from first lines (number ∷ numbers) =
    (from ≤ number) × ((line : List ℕ) × IsLineAt first lines number line) × AreInOrder number first lines numbers

-- the commands of a part stand in lines of its string in order, of which the first has this number
abbrev pub HasItsLines : ℕ → ItemRead → Type 0
HasItsLines number (reads.Threads text threads) = AreInOrder number number (lines_of text.now) (numbers_in (commands_in threads.items))
HasItsLines number _ = Unit {0}

-- A sink that tells what it heard, and then held these bytes, has heard what an item gave whose first line has this number: what became of a line by
-- itself, of each command of a part, or of the line that is the fault of a part.
abbrev pub HearsItem : Config → ℕ → ItemRead → Progress → Given → Option (List ℕ) → Option (List Heard) → Option (List Heard) → Type 0
HearsItem g number (reads.Line line said) before given held old new =
    Hears old new (heard_of number line.now (turn_of g before line.now).outcome held ∷ [])
HearsItem g number (reads.Threads text threads) before given held old new =
    Hears old new (heard_lines number (lines_of text.now) held (numbers_in (commands_in threads.items)) given.outcomes)
HearsItem g number (reads.Fault at line) before given held old new =
    Hears old new (heard_of at.number line.now (Some (Fault at.fault)) held ∷ [])
