-- How the records of an event are laid out in a page, and the `format` file that says so, as Linux does: include/linux/trace_events.h
-- (`struct trace_entry`), Documentation/trace/events.rst ("Event formats"). A number lies at a multiple of its size, as in a struct of C, and a
-- text anywhere.
use Rattle.std.specs.Prelude.{ℕ, ◌+◌, ◌-◌, ◌*◌, ◌/◌, Bool, true, false, List, [], ◌∷◌, ◌++◌, length, take, drop, replicate, codes}
use Rattle.std.specs.Fmt.{decimal}
use Rattle.std.specs.Int.{w16, w32, to_le_bytes, cast_unsigned}
use Rattle.std.specs.List.{flat_map}
use Rattle.trace_record.specs.declared.head.Head.{Head}
use Rattle.trace_format.specs.declared.event.Field.{Field}
use Rattle.trace_format.specs.declared.kind.NumberType.{NumberType}
use Rattle.trace_format.specs.declared.kind.NumberType.TheVariants.{U8, U16, U32, U64, S8, S16, S32, S64, Int, PidT, UnsignedInt, Long, UnsignedLong}
use Rattle.trace_format.specs.declared.kind.Kind.{Kind}
use Rattle.trace_format.specs.declared.kind.Kind.TheVariants.{Number, Char}
use Rattle.trace_format.specs.Kinds.{number_size, size_of, is_signed_kind}
use Rattle.trace_format.specs.Definitions.{Definition}
use Rattle.record_text.specs.FieldText.{field_text}
use Rattle.record_text.specs.FormatText.{signed_text}

-- ---- where fields lie

-- the number of an event in a page and in its files: the first that is declared has 100, since Linux has events of its own below
abbrev pub kernel_id : ℕ → ℕ
kernel_id number = 99 + number

-- what a field's first byte lies at a multiple of
abbrev pub alignment : Kind → ℕ
alignment (Number t) = number_size t
alignment (Char n) = 1

-- the first multiple of `step` from `at` on
abbrev pub aligned : ℕ → ℕ → ℕ
aligned step at = (at + (step - 1)) / step * step

-- where a field begins that follows what ends at `at`, and where it ends
abbrev pub start_of : ℕ → Kind → ℕ
start_of at kind = aligned (alignment kind) at

abbrev pub end_of : ℕ → Kind → ℕ
end_of at kind = start_of at kind + size_of kind

-- ---- the bytes of a record

-- so many bytes, of these and then zeros
abbrev pub filled : ℕ → List ℕ → List ℕ
filled size bytes = take size bytes ++ replicate (size - length bytes) 0

-- the fields of a payload, from `at` on, each where it begins, and zeros between them and up to a multiple of four
abbrev pub fields_data : ℕ → List Field → List ℕ → List ℕ
fields_data at [] payload = replicate (aligned 4 at - at) 0
fields_data at (field ∷ fields) payload =
    replicate (start_of at field.kind - at) 0
    ++ (filled (size_of field.kind) payload ++ fields_data (end_of at field.kind) fields (drop (size_of field.kind) payload))

-- the common fields: the event's number, two flags that are 0, and the process
abbrev pub common_data : Head → List ℕ
common_data head = to_le_bytes w16 (kernel_id head.event) ++ (0 ∷ 0 ∷ to_le_bytes w32 (cast_unsigned w32 head.pid))

-- a record of fields: the common ones and its own behind them
unfoldable pub record_data : Head → List Field → List ℕ → List ℕ
record_data head fields payload = common_data head ++ fields_data 8 fields payload

-- ---- the `format` file

-- a field's offset, its size and whether it is signed
abbrev pub layout : ℕ → ℕ → Bool → List ℕ
layout offset size signed =
    codes ";\toffset:" ++ decimal offset
    ++ codes ";\tsize:" ++ decimal size
    ++ codes ";\tsigned:" ++ signed_text signed
    ++ codes ";\n"

unfoldable pub layout_line : List ℕ → ℕ → ℕ → Bool → List ℕ
layout_line declared offset size signed = codes "\tfield:" ++ declared ++ layout offset size signed

unfoldable pub field_line : ℕ → Field → List ℕ
field_line offset field = layout_line (field_text field) offset (size_of field.kind) (is_signed_kind field.kind)

abbrev pub field_lines : ℕ → List Field → List ℕ
field_lines at [] = []
field_lines at (field ∷ fields) = field_line (start_of at field.kind) field ++ field_lines (end_of at field.kind) fields

-- the common fields
abbrev pub common_lines : List ℕ
common_lines =
    layout_line (codes "unsigned short common_type") 0 2 false
    ++ layout_line (codes "unsigned char common_flags") 2 1 false
    ++ layout_line (codes "unsigned char common_preempt_count") 3 1 false
    ++ layout_line (codes "int common_pid") 4 4 true

-- how a field is printed. There is no cast, since a reader extends no sign
abbrev pub number_conversion : NumberType → List ℕ
number_conversion U8 = codes "%u"
number_conversion U16 = codes "%u"
number_conversion U32 = codes "%u"
number_conversion U64 = codes "%llu"
number_conversion S8 = codes "%hhd"
number_conversion S16 = codes "%hd"
number_conversion S32 = codes "%d"
number_conversion S64 = codes "%lld"
number_conversion Int = codes "%d"
number_conversion PidT = codes "%d"
number_conversion UnsignedInt = codes "%u"
number_conversion Long = codes "%lld"
number_conversion UnsignedLong = codes "%llu"

abbrev pub conversion : Kind → List ℕ
conversion (Number t) = number_conversion t
conversion (Char n) = codes "%s"

unfoldable pub shown_field : Field → List ℕ
shown_field field = field.name ++ codes "=" ++ conversion field.kind

-- the fields after one, each after a blank
unfoldable pub further_field : Field → List ℕ
further_field field = codes " " ++ shown_field field

abbrev pub shown_fields : List Field → List ℕ
shown_fields [] = []
shown_fields (field ∷ fields) = shown_field field ++ flat_map further_field fields

-- the field as an argument
unfoldable pub argument : Field → List ℕ
argument field = codes ", REC->" ++ field.name

abbrev pub print_line : List Field → List ℕ
print_line fields = codes "print fmt: \"" ++ shown_fields fields ++ codes "\"" ++ flat_map argument fields ++ codes "\n"

-- the text of `id`
abbrev pub id_text : ℕ → List ℕ
id_text number = decimal (kernel_id number) ++ codes "\n"

-- the name, the number and the common fields
unfoldable pub heading : ℕ → Definition → List ℕ
heading number definition =
    codes "name: " ++ definition.name
    ++ codes "\nID: " ++ id_text number
    ++ codes "format:\n" ++ common_lines
    ++ codes "\n"

-- the event's own fields, an empty line, and how they are printed
unfoldable pub own_text : List Field → List ℕ
own_text fields = field_lines 8 fields ++ codes "\n" ++ print_line fields

-- the text of `format`
unfoldable pub format_text : ℕ → Definition → List ℕ
format_text number definition = heading number definition ++ own_text definition.fields
