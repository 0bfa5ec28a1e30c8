-- The line of a record in the `trace` and `trace_pipe` files (ftrace.rst, "The File System", "Output format"); its layout was chosen by
-- this project.
use Rattle.std.specs.Prelude.{ℕ, ◌+◌, ◌/◌, ◌%◌, List, [], ◌∷◌, ◌++◌, Option, Some, None, codes}
use Rattle.std.specs.Fmt.{decimal, signed_decimal}
use Rattle.trace_record.specs.Record.{head_of, payload_in}
use Rattle.trace_record.specs.declared.head.Head.{Head}
use Rattle.trace_format.specs.declared.event.Field.{Field}
use Rattle.trace_format.specs.Definitions.{Definition}
use Rattle.trace_format.specs.Cells.{Cells, Datum, Whole, Bytes}
use Rattle.trace_format.specs.Decoding.{row_from}
use Rattle.trace_format.specs.Catalogs.{event_of}

-- a number below 1,000 in three digits
abbrev pub three_digits : ℕ → List ℕ
three_digits n = (48 + n / 100 % 10) ∷ (48 + n / 10 % 10) ∷ (48 + n % 10) ∷ []

-- who wrote a record, where and when
unfoldable pub line_start : ℕ → Head → List ℕ
line_start cpu head = signed_decimal head.pid ++ codes " [" ++ three_digits cpu ++ codes "] " ++ decimal head.ts ++ codes ": "

-- a number in decimal with its sign, a text as it is
abbrev pub value_text : Datum → List ℕ
value_text (Whole n) = signed_decimal n
value_text (Bytes bytes) = bytes

-- a field and its value
unfoldable pub cell_text : Field → Datum → List ℕ
cell_text field value = codes " " ++ field.name ++ codes "=" ++ value_text value

-- the fields in order, each with its value
abbrev pub cells_text : List Field → List Datum → List ℕ
cells_text [] values = []
cells_text (field ∷ fields) [] = []
cells_text (field ∷ fields) (value ∷ values) = cell_text field value ++ cells_text fields values

-- a record's line: pid, CPU, timestamp, event, and each field with its value
unfoldable pub row_line : ℕ → Head → Definition → List Datum → List ℕ
row_line cpu head definition values =
    line_start cpu head ++ definition.name ++ codes ":" ++ cells_text definition.fields values ++ codes "\n"

-- the line of what was found; none without an event, or without a row of it
abbrev pub line_of_row : ℕ → Head → Definition → Option Cells → List ℕ
line_of_row cpu head definition None = []
line_of_row cpu head definition (Some row) = row_line cpu head definition row.values

abbrev pub line_of_event : ℕ → Head → List ℕ → Option Definition → List ℕ
line_of_event cpu head payload None = []
line_of_event cpu head payload (Some definition) = line_of_row cpu head definition (row_from definition payload)

abbrev pub line_of_head : List Definition → ℕ → List ℕ → Option Head → List ℕ
line_of_head events cpu bytes None = []
line_of_head events cpu bytes (Some head) = line_of_event cpu head (payload_in head bytes) (event_of events head.event)

-- the line of a record's bytes; every record in a ring has a head, which names a declared event, and its payload is a row of that event
unfoldable pub record_line : List Definition → ℕ → List ℕ → List ℕ
record_line events cpu bytes = line_of_head events cpu bytes (head_of bytes)
