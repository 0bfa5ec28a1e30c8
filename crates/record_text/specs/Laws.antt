-- What a record's line is, in the words of the row that was recorded, how many bytes a record has, and where a format says that they lie.
use Rattle.std.specs.Prelude.{◌≡◌, ℕ, ◌+◌, ◌-◌, ◌*◌, ◌/◌, ◌<◌, ◌^◌, FitsSigned, List, [], ◌∷◌, ◌++◌, length, map, take, drop, replicate, codes, Some}
use Rattle.std.specs.Int.{w32}
use Rattle.trace_record.specs.Record.{head_bytes}
use Rattle.trace_record.specs.declared.head.Head.{Head}
use Rattle.trace_format.specs.Definitions.{Definition}
use Rattle.trace_format.specs.declared.event.Field.{Field}
use Rattle.trace_format.specs.declared.kind.NumberType.TheVariants.{S32}
use Rattle.trace_format.specs.declared.kind.Kind.TheVariants.{Number}
use Rattle.trace_format.specs.Kinds.{size_of}
use Rattle.trace_format.specs.Cells.{Cells, Datum, Whole, IsRowOf, field_bytes, size_of_all, payload_of, record_size_of}
use Rattle.trace_format.specs.Catalogs.{event_of}
use Rattle.record_text.specs.FormatText.{field_line, field_lines, common_pid_line, format_text}
use Rattle.record_text.specs.RecordText.{record_line, row_line}

-- a head that names this event among the declared ones and tells the length of the row's payload, each of its numbers in the range of its type
pub record IsHeadOf (events : List Definition) (definition : Definition) (row : Cells) (head : Head) : Type 0 where
  pub event : event_of events head.event ≡ Some definition
  pub payload : head.payload ≡ length (payload_of row)
  pub event_fits : head.event < 2 ^ 16
  pub payload_fits : head.payload < 2 ^ 16
  pub ts_fits : head.ts < 2 ^ 64
  pub pid_fits : FitsSigned w32 head.pid

-- a record of a row, whatever stands behind the row, has the line of the row
abbrev pub RecordShowsItsRow : Type 0
RecordShowsItsRow =
    (events : List Definition) (cpu : ℕ) (definition : Definition) (row : Cells) (head : Head) (padding : List ℕ)
    → IsRowOf definition row → IsHeadOf events definition row head
    → record_line events cpu (head_bytes head ++ payload_of row ++ padding) ≡ row_line cpu head definition row.values

-- the head, the payload of a row, and zeros up to a multiple of 8 are as many bytes as the event's records take
abbrev pub RecordHasItsSize : Type 0
RecordHasItsSize =
    (definition : Definition) (row : Cells) (head : Head)
    → IsRowOf definition row
    → let size = length (payload_of row) in
    length (head_bytes head ++ payload_of row ++ replicate (8 * ((size + 7) / 8) - size) 0) ≡ record_size_of definition

-- ---- where fields lie

-- where the first byte of a field lies: behind the head, which has 16 bytes, and the fields before it
abbrev pub offset_behind : List Field → ℕ
offset_behind front = 16 + size_of_all (map (λ field. field.kind) front)

-- the value of a field in a row, the field standing behind these in the event
pub record IsValueBehind (definition : Definition) (row : Cells) (front : List Field) (field : Field) (value : Datum) : Type 0 where
  pub back : List Field
  pub values_front : List Datum
  pub values_back : List Datum
  pub fields : definition.fields ≡ front ++ field ∷ back
  pub values : row.values ≡ values_front ++ value ∷ values_back
  pub paired : length values_front ≡ length front

-- the format of an event is that of the fields before a field, then the field's line with its offset, then the lines of the fields behind it
abbrev pub LineHasOffset : Type 0
LineHasOffset =
    (id : ℕ) (definition : Definition) (front : List Field) (field : Field) (back : List Field)
    → definition.fields ≡ front ++ field ∷ back
    → format_text id definition
    ≡ format_text id (record definition { fields = front }) ++ field_line (offset_behind front) field ++ field_lines (offset_behind (front ++ field ∷ [])) back

-- in a record of a row, whatever stands behind the row, as many bytes from this offset on as the field takes are those of its value
abbrev pub ValueLiesAtOffset : Type 0
ValueLiesAtOffset =
    (definition : Definition) (row : Cells) (front : List Field) (field : Field) (value : Datum) (head : Head) (padding : List ℕ)
    → IsRowOf definition row → IsValueBehind definition row front field value
    → take (size_of field.kind) (drop (offset_behind front) (head_bytes head ++ payload_of row ++ padding)) ≡ field_bytes field.kind value

-- and the value has so many bytes
abbrev pub ValueHasItsSize : Type 0
ValueHasItsSize =
    (definition : Definition) (row : Cells) (front : List Field) (field : Field) (value : Datum)
    → IsRowOf definition row → IsValueBehind definition row front field value
    → length (field_bytes field.kind value) ≡ size_of field.kind

-- ---- where the process lies

-- the head's number of the process, as a field
abbrev pub common_pid : Field
common_pid = record { name = codes "common_pid"; kind = Number S32 }

-- the line that each format has of it is that of a field at the offset 8
abbrev pub ProcessHasLine : Type 0
ProcessHasLine = common_pid_line ≡ field_line 8 common_pid

-- behind a head, whatever stands there, as many bytes from this offset on as the field takes are those of the head's process
abbrev pub ProcessLiesAtOffset : Type 0
ProcessLiesAtOffset = (head : Head) (rest : List ℕ) → take (size_of common_pid.kind) (drop 8 (head_bytes head ++ rest)) ≡ field_bytes common_pid.kind (Whole head.pid)
