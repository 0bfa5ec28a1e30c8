-- How many bytes payloads have.
use Rattle.std.proofs.Common.{◌≡◌, List, [], ◌∷◌, length, refl, ap, ◌∙◌, arith, length-append}
use Rattle.std.specs.List.{AllZip}
use Rattle.trace_format.specs.declared.kind.Kind.{Kind}
use Rattle.trace_format.specs.Cells.{Datum, Holds, field_bytes, bytes_of, size_of_all}
use Rattle.trace_format.specs.Laws.{PayloadHasItsSize}
use Rattle.trace_format.proofs.Payloads.{length-field_bytes}

-- values of their types
pub length-bytes_of : (kinds : List Kind) (values : List Datum) → AllZip Holds kinds values → length (bytes_of kinds values) ≡ size_of_all kinds
length-bytes_of [] [] held = refl
length-bytes_of [] (value ∷ values) held = elim held [ ]
length-bytes_of (kind ∷ kinds) [] held = elim held [ ]
length-bytes_of (kind ∷ kinds) (value ∷ values) held =
    omega (arith, length-append (field_bytes kind value) (bytes_of kinds values), length-field_bytes kind value held.0, length-bytes_of kinds values held.1)

pub payload_has_its_size : PayloadHasItsSize
payload_has_its_size definition row is = length-bytes_of row.kinds row.values is.values ∙ ap size_of_all is.kinds
