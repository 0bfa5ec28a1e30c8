use Rattle.std.proofs.Common.{◌≡◌, ◌≤◌, ◌+◌, ◌-◌, ◌++◌, length, map, drop, filter_map, vec_len, vec_capacity}
use Rattle.trace_format.specs.Cells.{datum_of}
use Rattle.trace_format.specs.Rows.{first_missing, given}
use Rattle.trace_format.proofs.given.given_values.Given as goal

-- there is room for the values of all fields; the values so far and those of the fields that are left are those of all, and a field that is missing is left
abbrev pub invariant-loop-field : goal.invariant-loop-field
invariant-loop-field l = (vec_len l.values + (length l.fields - l.field-index) ≤ vec_capacity l.values)
    × (first_missing (drop l.field-index l.fields) l.pairs ≡ first_missing l.fields l.pairs)
    × (map datum_of l.values.items ++ filter_map (given l.pairs) (drop l.field-index l.fields) ≡ filter_map (given l.pairs) l.fields)
