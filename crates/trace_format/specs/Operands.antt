-- What a name means in an event, and the value that this has in an emission (events.rst, "Event filtering"; histogram.rst, "hist triggers").
use Rattle.std.specs.Prelude.{ℕ, ◌+◌, ℤ, pos, Bool, false, if◌then◌else◌, bytes_eq, codes, List, [], ◌∷◌, slice_get, Option, None, Some, option_and_then}
use Rattle.trace_format.specs.declared.event.Field.{Field}
use Rattle.trace_format.specs.declared.operand.Operand.{Operand}
use Rattle.trace_format.specs.declared.operand.Operand.TheVariants as operands
use Rattle.trace_format.specs.Kinds.{is_text_kind}
use Rattle.trace_format.specs.Cells.{Datum, Whole}

-- ---- names

-- the first field of a name, where the first of the fields has this index
abbrev pub operand_from : ℕ → List Field → List ℕ → Option Operand
operand_from index [] name = None
operand_from index (field ∷ fields) name = if bytes_eq field.name name
    then Some (operands.Field index (is_text_kind field.kind))
    else operand_from (index + 1) fields name

-- what a name means: every event has the numbers `common_pid` and `common_cpu`, another name is a field's
unfoldable pub operand_named : List Field → List ℕ → Option Operand
operand_named fields name = if bytes_eq name (codes "common_pid") then Some operands.Pid
    else if bytes_eq name (codes "common_cpu") then Some operands.Cpu
    else operand_from 0 fields name

-- whether it is a text; what is none is a number
abbrev pub is_text : Operand → Bool
is_text operands.Pid = false
is_text operands.Cpu = false
is_text (operands.Field index text) = text

-- ---- values

-- what an emission has: the values of its row, its CPU and its process
pub record Emission : Type 0 where
  pub values : List Datum
  pub cpu : ℕ
  pub pid : ℤ

-- the value of an operand; a row of the event has one for each of its fields
abbrev pub operand_value : Emission → Operand → Option Datum
operand_value emission operands.Pid = Some (Whole emission.pid)
operand_value emission operands.Cpu = Some (Whole (pos emission.cpu))
operand_value emission (operands.Field index text) = slice_get emission.values index

-- the value that a name means
abbrev pub value_named : List Field → Emission → List ℕ → Option Datum
value_named fields emission name = option_and_then (operand_value emission) (operand_named fields name)
