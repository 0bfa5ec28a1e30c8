-- Cells of keys whose strings are kept beside them, all bytes one after the other.
use Rattle.std.specs.Prelude.{◌≡◌, ℕ, ◌+◌, List, [], ◌∷◌, length, take, drop}
use Rattle.trace_format.specs.Cells.{Datum, Whole, Bytes}
use Rattle.hist_entries.specs.declared.flat_cells.FlatCell.{FlatCell}
use Rattle.hist_entries.specs.declared.flat_cells.FlatCell.TheVariants.{Num, Text}

-- what they are: a string has the next so many bytes
abbrev pub cells_of : List FlatCell → List ℕ → List Datum
cells_of [] bytes = []
cells_of (Num n ∷ cells) bytes = Whole n ∷ cells_of cells bytes
cells_of (Text size ∷ cells) bytes = Bytes (take size bytes) ∷ cells_of cells (drop size bytes)

-- how many bytes their strings have
abbrev pub text_length : List FlatCell → ℕ
text_length [] = 0
text_length (Num n ∷ cells) = text_length cells
text_length (Text size ∷ cells) = size + text_length cells

-- these are the bytes of all their strings
abbrev pub IsTextOf : List FlatCell → List ℕ → Type 0
IsTextOf cells bytes = text_length cells ≡ length bytes
