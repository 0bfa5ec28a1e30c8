-- Tests as the program makes them. That they are what `Truth` says follows from the law `filters_hold_as_their_trees`.
use Rattle.std.specs.Prelude.{ℕ, ℤ, int_le, Bool, false, not, ◌&&◌, ◌==◌, nat_lt, bytes_eq, bit_and, List, length}
use Rattle.std.specs.Ordering.{int_eq}
use Rattle.trace_format.specs.Cells.{Datum, Whole, Bytes}
use Rattle.trace_filter.specs.declared.token.Comparison.{Comparison}
use Rattle.trace_filter.specs.declared.token.Comparison.TheVariants as comparison
use Rattle.trace_filter.specs.Truth.{pattern_of}
use Rattle.trace_filter.specs.Globs.{parts_of}
use Rattle.trace_filter.specs.Marks.{is_match}

abbrev pub number_test : Comparison → ℤ → ℤ → Bool
number_test comparison.Eq a b = int_eq a b
number_test comparison.Ne a b = not (int_eq a b)
number_test comparison.Le a b = int_le a b
number_test comparison.Ge a b = int_le b a
number_test comparison.Lt a b = not (int_le b a)
number_test comparison.Gt a b = not (int_le a b)
number_test comparison.BitAnd a b = not (bit_and (pattern_of a) (pattern_of b) == 0)
number_test comparison.Glob a b = false

-- a matched text has under 256 bytes, as all texts of rows have
abbrev pub text_test : Comparison → List ℕ → List ℕ → Bool
text_test comparison.Eq a b = bytes_eq a b
text_test comparison.Ne a b = not (bytes_eq a b)
text_test comparison.Le a b = false
text_test comparison.Ge a b = false
text_test comparison.Lt a b = false
text_test comparison.Gt a b = false
text_test comparison.BitAnd a b = false
text_test comparison.Glob a b = nat_lt (length a) 256 && is_match (parts_of b) a

abbrev pub datum_test : Comparison → Datum → Datum → Bool
datum_test by (Whole a) (Whole b) = number_test by a b
datum_test by (Whole a) (Bytes b) = false
datum_test by (Bytes a) (Whole b) = false
datum_test by (Bytes a) (Bytes b) = text_test by a b
