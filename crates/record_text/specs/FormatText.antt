-- The text of a `format` file, after "Event formats" of events.rst. That a record's only common field shown is the pid, that the fields
-- begin at 16 with no padding between them, and that a text shows its length and is not signed, was chosen by this project.
use Rattle.std.specs.Prelude.{ℕ, ◌+◌, Bool, true, if◌then◌else◌, List, [], ◌∷◌, ◌++◌, codes}
use Rattle.std.specs.Fmt.{decimal}
use Rattle.trace_format.specs.declared.event.Field.{Field}
use Rattle.trace_format.specs.Kinds.{size_of, is_signed_kind}
use Rattle.trace_format.specs.Definitions.{Definition}
use Rattle.record_text.specs.FieldText.{field_text}

-- 1 where numbers below 0 are held
abbrev pub signed_text : Bool → List ℕ
signed_text signed = if signed then codes "1" else codes "0"

-- the offset of a field's first byte in a record, how many bytes it takes, and whether it is signed
abbrev pub layout_text : ℕ → ℕ → Bool → List ℕ
layout_text offset size signed =
    codes ";\toffset:" ++ decimal offset
    ++ codes ";\tsize:" ++ decimal size
    ++ codes ";\tsigned:" ++ signed_text signed
    ++ codes ";\n"

-- a field with its layout
unfoldable pub layout_line : List ℕ → ℕ → ℕ → Bool → List ℕ
layout_line declared offset size signed = codes "\tfield:" ++ declared ++ layout_text offset size signed

unfoldable pub field_line : ℕ → Field → List ℕ
field_line offset field = layout_line (field_text field) offset (size_of field.kind) (is_signed_kind field.kind)

-- fields one behind the other, from an offset on
abbrev pub field_lines : ℕ → List Field → List ℕ
field_lines offset [] = []
field_lines offset (field ∷ fields) = field_line offset field ++ field_lines (offset + size_of field.kind) fields

-- the pid stands in each record's head
unfoldable pub common_pid_line : List ℕ
common_pid_line = layout_line (codes "s32 common_pid") 8 4 true

-- the event's name and number, the pid, an empty line, and the fields behind the head, which has 16 bytes
unfoldable pub format_text : ℕ → Definition → List ℕ
format_text id definition =
    codes "name: " ++ definition.name
    ++ codes "\nID: " ++ decimal id
    ++ codes "\nformat:\n" ++ common_pid_line
    ++ codes "\n" ++ field_lines 16 definition.fields
