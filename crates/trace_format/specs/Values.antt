-- Values given without texts: what an emission writes for them (events.rst, "In-kernel trace event API").
use Rattle.std.specs.Prelude.{ℕ, List, [], ◌∷◌}
use Rattle.std.specs.Fmt.{decimal, signed_decimal}
use Rattle.trace_format.specs.declared.event.Field.{Field}
use Rattle.trace_format.specs.declared.field_value.FieldValue.{FieldValue}
use Rattle.trace_format.specs.declared.field_value.FieldValue.TheVariants.{Unsigned, Signed, Bytes}
use Rattle.trace_format.specs.declared.pair.Pair.{Pair}

-- the text of a value: a number in decimal, bytes as they are
abbrev pub text_given : FieldValue → List ℕ
text_given (Unsigned n) = decimal n
text_given (Signed n) = signed_decimal n
text_given (Bytes bytes) = bytes.now

-- the pairs that give values to fields in order of declaration; a value beyond the last field has the empty name, which no field has
abbrev pub pairs_given : List Field → List FieldValue → List Pair
pairs_given fields [] = []
pairs_given [] (value ∷ values) = record { name = []; value = text_given value } ∷ pairs_given [] values
pairs_given (field ∷ fields) (value ∷ values) = record { name = field.name; value = text_given value } ∷ pairs_given fields values
