-- The values of an emission as C gives them.
use Rattle.std.specs.Prelude.{◌==◌, if◌then◌else◌, List, [], ◌∷◌, Option, Some, None}
use Rattle.std.specs.Int.{w64, cast_signed}
use Rattle.std.specs.Option.{option_and_then, option_map}
use Rattle.trace_format.specs.declared.field_value.FieldValue.{FieldValue}
use Rattle.trace_format.specs.declared.field_value.FieldValue.TheVariants.{Unsigned, Signed, Bytes}
use Rattle.tracectl_c.specs.declared.value.Value.{Value}

-- the value that is given: kind 0 is a number from 0, 1 the number with a sign of the same bits, 2 bytes
abbrev pub value_in : Value → Option FieldValue
value_in value =
    if value.kind == 0 then Some (Unsigned value.number)
    else (if value.kind == 1 then Some (Signed (cast_signed w64 value.number))
    else (if value.kind == 2 then Some (Bytes value.bytes) else None))

-- the values that are given, if each is of such a kind
unfoldable pub values_in : List Value → Option (List FieldValue)
values_in [] = Some []
values_in (value ∷ values) = option_and_then (λ given. option_map (λ more. given ∷ more) (values_in values)) (value_in value)
