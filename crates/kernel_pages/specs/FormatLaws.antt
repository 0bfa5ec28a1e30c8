-- The data of a record lie where the event's `format` says.
use Rattle.std.specs.Prelude.{◌≡◌, ℕ, ◌+◌, ◌%◌, ◌^◌, ◌<◌, ◌≤◌, FitsSigned, List, [], ◌∷◌, ◌++◌, length, take, drop, codes}
use Rattle.std.specs.Int.{w16, w32, cast_signed}
use Rattle.trace_record.specs.Record.{head_bytes, number_at}
use Rattle.trace_record.specs.declared.head.Head.{Head}
use Rattle.trace_format.specs.declared.event.Field.{Field}
use Rattle.trace_format.specs.declared.kind.Kind.{Kind}
use Rattle.trace_format.specs.Kinds.{size_of}
use Rattle.trace_format.specs.Definitions.{Definition, IsDefinition}
use Rattle.trace_format.specs.Cells.{Cells, Datum, IsRowOf, field_bytes, payload_of}
use Rattle.record_text.specs.Laws.{IsHeadOf, IsValueBehind}
use Rattle.trace_buffer.specs.Families.{CpuReading}
use Rattle.kernel_pages.specs.Pages.{IsOnePage}
use Rattle.kernel_pages.specs.Rows.{row_of, rows_of}
use Rattle.kernel_pages.specs.KernelFormats.{kernel_id, alignment, start_of, end_of, record_data, field_line, field_lines, common_lines, id_text, own_text, format_text}

-- where fields end
abbrev pub end_after : ℕ → List Field → ℕ
end_after at [] = at
end_after at (field ∷ fields) = end_after (end_of at field.kind) fields

-- where a field begins that follows these
abbrev pub offset_of : List Field → Field → ℕ
offset_of front field = start_of (end_after 8 front) field.kind

-- the lines of an event's fields are those of the fields before a field, its own with its offset, and those of the fields after it
abbrev pub LineHasOffset : Type 0
LineHasOffset =
    (front : List Field) (field : Field) (back : List Field)
    → field_lines 8 (front ++ field ∷ back)
    ≡ field_lines 8 front ++ (field_line (offset_of front field) field ++ field_lines (offset_of front field + size_of field.kind) back)

-- in a record of a row, as many bytes from this offset on as the field takes are those of its value
abbrev pub ValueLiesAtOffset : Type 0
ValueLiesAtOffset =
    (definition : Definition) (row : Cells) (front : List Field) (field : Field) (value : Datum) (head : Head)
    → IsRowOf definition row → IsValueBehind definition row front field value
    → take (size_of field.kind) (drop (offset_of front field) (record_data head definition.fields (payload_of row))) ≡ field_bytes field.kind value

-- a record of a ring, whatever stands behind its row, is told as its head's time, and the record of its event's fields
abbrev pub RecordIsTold : Type 0
RecordIsTold =
    (events : List Definition) (definition : Definition) (row : Cells) (head : Head) (padding : List ℕ) (lost : ℕ)
    → IsHeadOf events definition row head
    → row_of events lost (head_bytes head ++ payload_of row ++ padding)
    ≡ record { time = head.ts; lost = lost; bytes = record_data head definition.fields (payload_of row) }

-- a field begins at the first place from the end of the one before it on that its type may have
abbrev pub FieldIsAligned : Type 0
FieldIsAligned =
    (at : ℕ) (kind : Kind) → (at ≤ start_of at kind) × (start_of at kind < at + alignment kind) × (start_of at kind % alignment kind ≡ 0)

-- the text of `format` after the event's number
abbrev pub after_id : Definition → List ℕ
after_id definition = codes "format:\n" ++ common_lines ++ codes "\n" ++ own_text definition.fields

-- the number in `format` is the text of `id`
abbrev pub IdIsInFormat : Type 0
IdIsInFormat =
    (number : ℕ) (definition : Definition)
    → format_text number definition ≡ codes "name: " ++ definition.name ++ codes "\nID: " ++ (id_text number ++ after_id definition)

-- `common_type`, two bytes at 0, is the number of `id`, and `common_pid`, four bytes with a sign at 4, is the process
abbrev pub CommonFieldsAreRead : Type 0
CommonFieldsAreRead =
    (head : Head) (fields : List Field) (payload : List ℕ) → kernel_id head.event < 2 ^ 16 → FitsSigned w32 head.pid
    → (number_at w16 0 (record_data head fields payload) ≡ kernel_id head.event)
    × (cast_signed w32 (number_at w32 4 (record_data head fields payload)) ≡ head.pid)

-- a record of these fields fits a page
abbrev pub FitPage : List Field → Type 0
FitPage fields = (head : Head) (payload : List ℕ) → length (record_data head fields payload) ≤ 4056

-- a record of any event that can be declared fits a page
abbrev pub EventFitsPage : Type 0
EventFitsPage = (definition : Definition) → IsDefinition definition → length definition.fields ≤ 16 → FitPage definition.fields

-- a page tells at most 340 records, whatever they are: each takes 12 bytes or more
abbrev pub PageHasFewRecords : Type 0
PageHasFewRecords = (events : List Definition) (readings : List CpuReading) → IsOnePage (rows_of events readings) → length readings ≤ 340
