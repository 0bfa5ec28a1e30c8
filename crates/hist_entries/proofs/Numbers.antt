-- The numbers of a row are in range.
use Rattle.std.proofs.Common.{ℕ, zero, suc, ℤ, pos, ◌≤ℤ◌, List, [], ◌∷◌, arith}
use Rattle.std.specs.List.{AllZip}
use Rattle.std.proofs.lemmas.Int.{ints}
use Rattle.trace_format.specs.declared.kind.Kind.{Kind}
use Rattle.trace_format.specs.declared.kind.Kind.TheVariants.{Number, Char}
use Rattle.trace_format.specs.declared.kind.NumberType.{NumberType}
use Rattle.trace_format.specs.declared.kind.NumberType.TheVariants.{U8, U16, U32, U64, S8, S16, S32, S64, Int, PidT, UnsignedInt, Long, UnsignedLong}
use Rattle.trace_format.specs.Kinds.{least, greatest}
use Rattle.trace_format.specs.Cells.{Datum, Whole, Bytes, Holds}
use Rattle.hist_entries.specs.Hits.{number_of, field_cell}
use Rattle.hist_entries.specs.Numbers.{IsFieldNumber}

type_in_range : (t : NumberType) (n : ℤ) → least t ≤ℤ n → n ≤ℤ greatest t → IsFieldNumber n
type_in_range U8 n low high = (omega (arith, ints), omega (arith, ints))
type_in_range U16 n low high = (omega (arith, ints), omega (arith, ints))
type_in_range U32 n low high = (omega (arith, ints), omega (arith, ints))
type_in_range U64 n low high = (omega (arith, ints), omega (arith, ints))
type_in_range S8 n low high = (omega (arith, ints), omega (arith, ints))
type_in_range S16 n low high = (omega (arith, ints), omega (arith, ints))
type_in_range S32 n low high = (omega (arith, ints), omega (arith, ints))
type_in_range S64 n low high = (omega (arith, ints), omega (arith, ints))
type_in_range Int n low high = (omega (arith, ints), omega (arith, ints))
type_in_range PidT n low high = (omega (arith, ints), omega (arith, ints))
type_in_range UnsignedInt n low high = (omega (arith, ints), omega (arith, ints))
type_in_range Long n low high = (omega (arith, ints), omega (arith, ints))
type_in_range UnsignedLong n low high = (omega (arith, ints), omega (arith, ints))

none_in_range : IsFieldNumber (pos 0)
none_in_range = (omega (arith, ints), omega (arith, ints))

cell_in_range : (kind : Kind) (cell : Datum) → Holds kind cell → IsFieldNumber (number_of cell)
cell_in_range (Number t) (Whole n) h = type_in_range t n h.0 h.1
cell_in_range (Number t) (Bytes bytes) h = absurd h
cell_in_range (Char n) (Whole z) h = absurd h
cell_in_range (Char n) (Bytes bytes) h = none_in_range

pub row_in_range : (kinds : List Kind) (values : List Datum) (index : ℕ) → AllZip Holds kinds values
    → IsFieldNumber (number_of (field_cell values index))
row_in_range [] [] index h = none_in_range
row_in_range [] (value ∷ values) index h = absurd h
row_in_range (kind ∷ kinds) [] index h = none_in_range
row_in_range (kind ∷ kinds) (value ∷ values) zero h = cell_in_range kind value h.0
row_in_range (kind ∷ kinds) (value ∷ values) (suc index) h = row_in_range kinds values index h.1
