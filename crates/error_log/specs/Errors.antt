-- Writes that were refused, as `error_log` shows them (ftrace.rst, "The File System": error_log).
use Rattle.std.specs.Prelude.{ℕ, ◌-◌, ◌==◌, Bool, not, List, [], ◌++◌, length, map, take, drop, reverse, Option, Some, codes}
use Rattle.std.specs.Fmt.{decimal}
use Rattle.std.specs.List.{prefix_len}
use Rattle.trace_command.specs.Paths.{File, OfInstance, OfEvent, address_of}
use Rattle.trace_command.specs.declared.file_name.EventFile.TheVariants as per_event
use Rattle.trace_command.specs.declared.file_name.TopFile.TheVariants as top
use Rattle.mount_tree.specs.declared.node.Owner.{Owner}
use Rattle.refusal_explanations.specs.Layout.{pad_byte, shown_bytes}

-- A write that was refused: the instance whose file was written, when, what the file is called, what is kept of the line to blame, one sentence of what
-- is wrong, and where in what is kept the byte is that is to blame.
pub record ErrorSeen : Type 0 where
  pub owner : Owner
  pub time : ℕ
  pub name : List ℕ
  pub written : List ℕ
  pub sentence : List ℕ
  pub at : ℕ

-- ---- what is kept of a write

-- what a file is called: a trigger and a filter as a kernel calls them, any other by its path
abbrev pub name_of_file : List ℕ → Option File → List ℕ
name_of_file path (Some (OfEvent event per_event.Trigger)) = codes "hist:synthetic:" ++ event
name_of_file path (Some (OfEvent event per_event.Filter)) = codes "event filter parse error"
name_of_file path (Some (OfInstance top.EventsFilter)) = codes "event filter parse error"
name_of_file path _ = path

abbrev pub name_at : List ℕ → List ℕ
name_at path = name_of_file path (address_of path).file

-- a write of whose refusal nothing is said yet
abbrev pub begun : Owner → ℕ → List ℕ → ErrorSeen
begun owner time path = record { owner = owner; time = time; name = name_at path; written = []; sentence = []; at = 0 }

-- any byte but a newline (10)
abbrev pub is_in_line : ℕ → Bool
is_in_line byte = not (byte == 10)

-- what follows the last newline of a text
abbrev pub last_line : List ℕ → List ℕ
last_line text = drop (length text - prefix_len is_in_line (reverse text)) text

-- what comes before the first
abbrev pub first_line : List ℕ → List ℕ
first_line text = take (prefix_len is_in_line text) text

-- the line of a text that has the byte at an offset: what comes before the byte after the last newline, and what follows up to the next
abbrev pub line_at : List ℕ → ℕ → List ℕ
line_at text offset = last_line (take offset text) ++ first_line (drop offset text)

-- the byte's column in it, from 0
abbrev pub column_at : List ℕ → ℕ → ℕ
column_at text offset = length (last_line (take offset text))

-- how many bytes are left out before a column, so that it is among the 256 that are kept
abbrev pub shift_of : ℕ → ℕ
shift_of column = column - 255

-- what is kept of a line, which is all of it if it has at most 256 bytes
abbrev pub window : List ℕ → ℕ → List ℕ
window line column = take 256 (drop (shift_of column) line)

-- where the column is in that
abbrev pub caret_of : ℕ → ℕ
caret_of column = column - shift_of column

-- a write of this text that was refused, with this sentence, at this offset
abbrev pub refused : ErrorSeen → List ℕ → List ℕ → ℕ → ErrorSeen
refused error text sentence offset =
    record error { written = window (line_at text offset) (column_at text offset); sentence = sentence; at = caret_of (column_at text offset) }

-- ---- what is shown of it

-- seconds in five places or more, and microseconds: the clock counts
abbrev pub time_text : ℕ → List ℕ
time_text time = take (5 - length (decimal time)) (codes "     ") ++ decimal time ++ codes ".000000"

abbrev pub heading : ErrorSeen → List ℕ
heading e = codes "[" ++ time_text e.time ++ codes "] " ++ e.name ++ codes ": error: " ++ e.sentence ++ codes "\n"

-- what was written, and the caret under the byte that is to blame
abbrev pub command : ErrorSeen → List ℕ
command e = codes "  Command: " ++ shown_bytes e.written

abbrev pub before_caret : ErrorSeen → List ℕ
before_caret e = codes "           " ++ map pad_byte (take e.at e.written)

abbrev pub error_text : ErrorSeen → List ℕ
error_text e = heading e ++ command e ++ codes "\n" ++ before_caret e ++ codes "^\n"
