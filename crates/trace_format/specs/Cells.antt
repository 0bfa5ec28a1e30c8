-- Rows: the values of an event's fields, and the bytes that record them.
use Rattle.std.specs.Prelude.{◌≡◌, ℕ, zero, suc, ◌+◌, ◌-◌, ◌/◌, ◌%◌, ◌^◌, ◌<◌, ℤ, pos, negsuc, ◌≤ℤ◌, Bool, ◌&&◌, nat_le, IsTrue, if◌then◌else◌, bytes_eq, List, [], ◌∷◌, ◌++◌, length, map, replicate, Option, None, Some}
use Rattle.std.specs.List.{list_all, AllZip}
use Rattle.trace_format.specs.declared.kind.Kind.{Kind}
use Rattle.trace_format.specs.declared.kind.Kind.TheVariants.{Number, Char}
use Rattle.trace_format.specs.declared.event.Field.{Field}
use Rattle.trace_format.specs.declared.value.Value.{Value}
use Rattle.trace_format.specs.declared.value.Value.TheVariants.{Num, Text}
use Rattle.trace_format.specs.declared.borrowed_value.BorrowedValue.{BorrowedValue}
use Rattle.trace_format.specs.declared.borrowed_value.BorrowedValue.TheVariants as borrowed
use Rattle.trace_format.specs.Kinds.{number_size, least, greatest, size_of}
use Rattle.trace_format.specs.Definitions.{Definition}
use Rattle.trace_record.specs.Record.{record_size}

-- ---- values and rows

-- the value of a field: a whole number, or a text of bytes
pub data Datum : Type 0 where
  Whole : ℤ → Datum
  Bytes : List ℕ → Datum

-- what the program's value is
abbrev pub datum_of : Value → Datum
datum_of (Num n) = Whole n
datum_of (Text bytes) = Bytes bytes.items

-- and one whose text lies elsewhere
abbrev pub datum_in : BorrowedValue → Datum
datum_in (borrowed.Num n) = Whole n
datum_in (borrowed.Text bytes) = Bytes bytes.now

-- from 0x20 to 0x7e
abbrev pub is_printable : ℕ → Bool
is_printable b = nat_le 0x20 b && nat_le b 0x7e

-- a field of the type may have the value: a number in range, or a printable text with room for a zero behind it
abbrev pub Holds : Kind → Datum → Type 0
Holds (Number t) (Whole n) = (least t ≤ℤ n) × (n ≤ℤ greatest t)
Holds (Number t) (Bytes bytes) = ⊥
Holds (Char n) (Whole z) = ⊥
Holds (Char n) (Bytes bytes) = (length bytes < n) × IsTrue (list_all is_printable bytes)

-- a row: the types of an event's fields, and their values, both in order of declaration
pub record Cells : Type 0 where
  pub kinds : List Kind
  pub values : List Datum

-- each field has a value that it may have
abbrev pub IsRow : Cells → Type 0
IsRow row = AllZip Holds row.kinds row.values

abbrev pub kinds_of : Definition → List Kind
kinds_of definition = map (λ field. field.kind) definition.fields

-- a row of an event
pub record IsRowOf (definition : Definition) (row : Cells) : Type 0 where
  pub kinds : row.kinds ≡ kinds_of definition
  pub values : IsRow row

-- a row as a map from its event's field names to their values
abbrev pub value_at : List Field → List Datum → List ℕ → Option Datum
value_at [] values name = None
value_at (field ∷ fields) [] name = None
value_at (field ∷ fields) (value ∷ values) name = if bytes_eq field.name name then Some value else value_at fields values name

-- the value at each field's name is the one in the field's offset
abbrev pub StandByName : List Field → List Datum → Type 0
StandByName fields values = AllZip (λ field value. value_at fields values field.name ≡ Some value) fields values

-- ---- bytes

-- so many bytes of a number, the lowest first
abbrev pub little_endian : ℕ → ℕ → List ℕ
little_endian zero n = []
little_endian (suc size) n = n % 256 ∷ little_endian size (n / 256)

-- a number's pattern in so many bytes, in two's complement
abbrev pub two's_complement : ℕ → ℤ → ℕ
two's_complement size (pos n) = n
two's_complement size (negsuc n) = 256 ^ size - suc n

-- the bytes of a field: a number in two's complement, the lowest byte first; a text and then zeros
abbrev pub field_bytes : Kind → Datum → List ℕ
field_bytes (Number t) (Whole n) = little_endian (number_size t) (two's_complement (number_size t) n)
field_bytes (Number t) (Bytes bytes) = []
field_bytes (Char n) (Whole z) = []
field_bytes (Char n) (Bytes bytes) = bytes ++ replicate (n - length bytes) 0

-- the fields one behind the other
abbrev pub bytes_of : List Kind → List Datum → List ℕ
bytes_of [] values = []
bytes_of (kind ∷ kinds) [] = []
bytes_of (kind ∷ kinds) (value ∷ values) = field_bytes kind value ++ bytes_of kinds values

-- a row's payload
abbrev pub payload_of : Cells → List ℕ
payload_of row = bytes_of row.kinds row.values

-- how many bytes it has
abbrev pub size_of_all : List Kind → ℕ
size_of_all [] = 0
size_of_all (kind ∷ kinds) = size_of kind + size_of_all kinds

abbrev pub payload_size_of : Definition → ℕ
payload_size_of definition = size_of_all (kinds_of definition)

-- and its record
abbrev pub record_size_of : Definition → ℕ
record_size_of definition = record_size (payload_size_of definition)
