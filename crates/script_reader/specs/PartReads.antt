-- What the code that reads a part promises.
use Rattle.std.specs.Prelude.{◌≡◌, Vec, ℕ, ◌+◌, true, List, [], ◌∷◌, ◌++◌, map, length, Some, Result, Ok}
use Rattle.std.specs.List.{list_any, slice_get}
use Rattle.std.specs.declared.alloc.Global.{Global}
use Rattle.trace_script.specs.declared.fault.ScriptFault.{ScriptFault}
use Rattle.trace_script.specs.declared.line.Line.{Line}
use Rattle.trace_script.specs.declared.line.Line.TheVariants.{Ask, Thread}
use Rattle.script_reader.specs.AskingLines.{command_in}
use Rattle.script_reader.specs.Items.{Item, Single, Threads, Faulty, first_fault, own_commands, threads_of, part_with, part_of, is_end, before_end, after_end}
use Rattle.script_reader.specs.declared.part.Numbered.{Numbered}
use Rattle.script_reader.specs.declared.part_line.PartLine.{PartLine}
use Rattle.script_reader.specs.declared.part.Part.TheVariants as parts
use Rattle.script_reader.specs.declared.part.Part.{Part}

-- the command that a line of a part asks for, with the line's number
abbrev pub asked_of : PartLine → Numbered
asked_of line = record { number = line.number; command = command_in line.line.now }

-- the commands of each thread
abbrev pub commands_in : List (Vec PartLine Global) → List (List Numbered)
commands_in threads = map (λ (own : Vec PartLine Global). map asked_of own.items) threads

-- the part that was read, as an item
abbrev pub item_of : Part → Item
item_of (parts.Threads threads) = Threads (commands_in threads.items)
item_of (parts.Fault at line) = Faulty at

-- some threads, the last of them with these commands too, and more threads after it
abbrev pub with_more : List (List Numbered) → List Numbered → List (List Numbered) → List (List Numbered)
with_more [] own more = more
with_more (last ∷ []) own more = (last ++ own) ∷ more
with_more (one ∷ next ∷ threads) own more = one ∷ with_more (next ∷ threads) own more

-- some threads, with one more line of this number
abbrev pub with_line : ℕ → Result Line ScriptFault → List (List Numbered) → List (List Numbered)
with_line number (Ok (Ask command)) threads = with_more threads (record { number = number; command = command } ∷ []) []
with_line number (Ok Thread) threads = threads ++ [] ∷ []
with_line number _ threads = threads

-- what a part comes to whose first lines came to this, and whose other lines begin with this number
abbrev pub comes_to : Item → ℕ → List (List ℕ) → Item
comes_to (Single at line) number lines = Single at line
comes_to (Threads threads) number lines =
    part_with (first_fault number (length threads) lines) (with_more threads (own_commands number lines) (threads_of number lines))
comes_to (Faulty at) number lines = Faulty at

-- among these lines, which are numbered from `first` on, the one of this number is this line
abbrev pub IsLineAt : ℕ → List (List ℕ) → ℕ → List ℕ → Type 0
IsLineAt first lines number line = (place : ℕ) × (number ≡ first + place) × (slice_get lines place ≡ Some line)

-- a fault comes with its line, which is one of these lines, numbered from `first` on
abbrev pub HasItsLine : ℕ → List (List ℕ) → Part → Type 0
HasItsLine first lines (parts.Threads threads) = Unit {0}
HasItsLine first lines (parts.Fault at line) = IsLineAt first lines at.number line.now

-- The part that these lines begin with, which are numbered from this number on, is this item. So many lines stand before its `end`, and these follow it.
abbrev pub IsPartRead : ℕ → List (List ℕ) → Item → ℕ → List (List ℕ) → Type 0
IsPartRead number all item lines rest =
    (list_any is_end all ≡ true) × (part_of number (before_end all) ≡ item) × (length (before_end all) ≡ lines) × (after_end all ≡ rest)
