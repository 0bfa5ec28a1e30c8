-- What the code that reads the next item of a script promises.
use Rattle.std.specs.Prelude.{◌≡◌, ℕ, Bool, true, false, List, Result, Ok}
use Rattle.trace_script.specs.Lines.{line_of}
use Rattle.trace_script.specs.declared.fault.ScriptFault.{ScriptFault}
use Rattle.trace_script.specs.declared.line.Line.{Line}
use Rattle.trace_script.specs.declared.line.Line.TheVariants.{Parallel}
use Rattle.script_reader.specs.Items.{Item, Single, Threads, Faulty}
use Rattle.script_reader.specs.PartReads.{commands_in, IsLineAt}
use Rattle.script_reader.specs.declared.item.ItemRead.TheVariants as reads
use Rattle.script_reader.specs.declared.item.ItemRead.{ItemRead}
use Rattle.script_reader.specs.declared.item.NextItem.TheVariants as nexts
use Rattle.script_reader.specs.declared.item.NextItem.{NextItem}
use Rattle.script_reader.specs.declared.item.PlainItem.{PlainItem}

-- the item that was read, whose first line has this number
abbrev pub item_read : ℕ → ItemRead → Item
item_read number (reads.Line line said) = Single number line.now
item_read number (reads.Threads text threads) = Threads (commands_in threads.items)
item_read number (reads.Fault at line) = Faulty at

-- a line by itself comes with what it says
abbrev pub IsSaid : ItemRead → Type 0
IsSaid (reads.Line line said) = said ≡ line_of line.now
IsSaid _ = Unit {0}

-- the fault of a part comes with its line, which is one of these lines, numbered from `first` on
abbrev pub HasFaultLine : ℕ → List (List ℕ) → ItemRead → Type 0
HasFaultLine first lines (reads.Fault at line) = IsLineAt first lines at.number line.now
HasFaultLine first lines _ = Unit {0}

-- the threads of a part come with the string that begins with its lines
abbrev pub HasItsText : List ℕ → ItemRead → Type 0
HasItsText script (reads.Threads text threads) = text.now ≡ script
HasItsText script _ = Unit {0}

-- the line begins a part, if an `end` follows it
abbrev pub begins_with : Result Line ScriptFault → Bool
begins_with (Ok Parallel) = true
begins_with _ = false

-- this holds of the command that was read where it lies, if one was
abbrev pub IfPlain : NextItem → (PlainItem → Type 0) → Type 0
IfPlain (nexts.Emission plain) Holds = Holds plain
IfPlain (nexts.Read plain) Holds = Holds plain
IfPlain nexts.Other Holds = Unit {0}

-- an emission was read where it lies
abbrev pub IsEmission : NextItem → Type 0
IsEmission (nexts.Emission plain) = Unit {0}
IsEmission _ = ⊥
