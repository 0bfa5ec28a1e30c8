-- Pairs that name the fields of an event in order, each once: their values take no search. That these pairs give the row of the values is what
-- `row_of` of `Rows` says of them.
use Rattle.std.specs.Prelude.{bytes_eq, if◌then◌else◌, List, [], ◌∷◌, ℕ, Option, None, Some, option_map, option_and_then}
use Rattle.trace_format.specs.declared.event.Field.{Field}
use Rattle.trace_format.specs.declared.pair.Pair.{Pair}
use Rattle.trace_format.specs.Cells.{Datum}
use Rattle.trace_format.specs.Rows.{value_of}

-- the value that a pair gives to a field, if it names it
abbrev pub named_value : Field → Pair → Option Datum
named_value field pair = if bytes_eq field.name pair.name then value_of field.kind pair.value else None

-- the values of pairs that name the fields in order
abbrev pub values_in_order : List Field → List Pair → Option (List Datum)
values_in_order [] [] = Some []
values_in_order [] (pair ∷ pairs) = None
values_in_order (field ∷ fields) [] = None
values_in_order (field ∷ fields) (pair ∷ pairs) =
    option_and_then (λ value. option_map (λ values. value ∷ values) (values_in_order fields pairs)) (named_value field pair)

-- the name of the first field; where there is none, the empty name
abbrev pub first_name : List Field → List ℕ
first_name [] = []
first_name (field ∷ fields) = field.name
