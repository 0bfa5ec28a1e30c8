-- What a hist trigger reads of an emission: the cells of its key, and the numbers that it sums (histogram.rst, "hist triggers").
use Rattle.std.specs.Prelude.{ℕ, ℤ, pos, List, map, unwrap_or, slice_get}
use Rattle.trace_format.specs.declared.operand.Operand.{Operand}
use Rattle.trace_format.specs.Cells.{Datum, Whole, Bytes}
use Rattle.trace_format.specs.Operands.{Emission, operand_value}
use Rattle.trace_format.specs.declared.key.Key.{Key}
use Rattle.hist_entries.specs.Buckets.{bucket_cell}

pub record Hit : Type 0 where
  pub key : List Datum
  pub numbers : List ℤ

-- the value at an index, or 0 where there is none
abbrev pub field_cell : List Datum → ℕ → Datum
field_cell values index = unwrap_or (slice_get values index) (Whole (pos 0))

-- the value of an operand, or 0 where there is none. (An event's row has a value at each of its fields.)
abbrev pub cell_of : Emission → Operand → Datum
cell_of emission operand = unwrap_or (operand_value emission operand) (Whole (pos 0))

-- a number as itself. (Only number fields are summed; 0 stands for a text.)
abbrev pub number_of : Datum → ℤ
number_of (Whole n) = n
number_of (Bytes bytes) = pos 0

abbrev pub number_at : Emission → Operand → ℤ
number_at emission operand = number_of (cell_of emission operand)

-- the cell that a key tells entries apart by: the bucket of the value
abbrev pub key_cell : Emission → Key → Datum
key_cell emission key = bucket_cell key.modifier (cell_of emission key.operand)
