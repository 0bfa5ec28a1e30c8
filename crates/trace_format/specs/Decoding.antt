-- Payloads read field by field. That this is the way back from `payload_of` is stated in `Laws`, as `PayloadIsRead`.
use Rattle.std.specs.Prelude.{ℕ, ◌+◌, ◌-◌, ◌*◌, ◌/◌, ◌^◌, suc, ℤ, pos, negsuc, Bool, ◌&&◌, ◌==◌, nat_lt, if◌then◌else◌, List, [], ◌∷◌, length, take, drop, Option, None, Some, option_map, option_and_then}
use Rattle.std.specs.List.{list_all, prefix_len}
use Rattle.trace_lex.specs.Prefixes.{is_not}
use Rattle.trace_format.specs.declared.kind.NumberType.{NumberType}
use Rattle.trace_format.specs.declared.kind.Kind.{Kind}
use Rattle.trace_format.specs.declared.kind.Kind.TheVariants.{Number, Char}
use Rattle.trace_format.specs.Kinds.{number_size, is_signed, size_of}
use Rattle.trace_format.specs.Definitions.{Definition}
use Rattle.trace_format.specs.Cells.{Datum, Whole, Bytes, Cells, kinds_of, is_printable}

-- the number that bytes write, the lowest first
abbrev pub unsigned_from : List ℕ → ℕ
unsigned_from [] = 0
unsigned_from (b ∷ bytes) = b + 256 * unsigned_from bytes

-- a pattern of so many bytes as a signed number
abbrev pub signed_from : ℕ → ℕ → ℤ
signed_from size n = if nat_lt n (256 ^ size / 2) then pos n else negsuc (256 ^ size - suc n)

abbrev pub number_from : NumberType → List ℕ → ℤ
number_from t bytes = if is_signed t then signed_from (number_size t) (unsigned_from bytes) else pos (unsigned_from bytes)

abbrev pub is_zero : ℕ → Bool
is_zero b = b == 0

-- the text before the zeros that fill a field, of which there is one at least
abbrev pub text_at : ℕ → List ℕ → Option Datum
text_at size bytes = if (nat_lt size (length bytes) && list_all is_printable (take size bytes)) && list_all is_zero (drop size bytes) then Some (Bytes (take size bytes)) else None

abbrev pub text_from : List ℕ → Option Datum
text_from bytes = text_at (prefix_len (is_not 0) bytes) bytes

abbrev pub field_from : Kind → List ℕ → Option Datum
field_from (Number t) bytes = Some (Whole (number_from t bytes))
field_from (Char n) bytes = text_from bytes

-- the values of fields one behind the other, with nothing behind them
abbrev pub values_from : List Kind → List ℕ → Option (List Datum)
values_from [] [] = Some []
values_from [] (b ∷ bytes) = None
values_from (kind ∷ kinds) bytes = if nat_lt (length bytes) (size_of kind) then None
    else option_and_then (λ value. option_map (λ values. value ∷ values) (values_from kinds (drop (size_of kind) bytes))) (field_from kind (take (size_of kind) bytes))

-- the row of an event that a payload is
abbrev pub row_from : Definition → List ℕ → Option Cells
row_from definition bytes = option_map (λ values. record { kinds = kinds_of definition; values = values }) (values_from (kinds_of definition) bytes)
