-- A field as it is declared.
use Rattle.std.specs.Prelude.{ℕ, List, ◌++◌, codes}
use Rattle.trace_format.specs.declared.event.Field.{Field}
use Rattle.trace_format.specs.Kinds.{type_name_of}
use Rattle.trace_format.specs.Definitions.{length_suffix}

-- the type with single blanks and the name, behind it the length of a text in brackets
unfoldable pub field_text : Field → List ℕ
field_text field = type_name_of field.kind ++ codes " " ++ field.name ++ length_suffix field.kind
