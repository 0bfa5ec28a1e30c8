use Rattle.std.proofs.Common.{◌≡◌, ◌≤◌, ◌+◌, ◌-◌, ◌++◌, length, map, drop, option_map, vec_len, vec_capacity}
use Rattle.trace_format.specs.Cells.{datum_of}
use Rattle.trace_format.specs.Decoding.{values_from}
use Rattle.trace_format.proofs.payload.decode_values.Given as goal

-- there is room for the values of all fields; the values so far and those of the bytes that are left are those of all
abbrev pub invariant-loop-field : goal.invariant-loop-field
invariant-loop-field l = (vec_len l.values + (length l.fields - l.field-index) ≤ vec_capacity l.values)
    × (option_map (λ values. map datum_of l.values.items ++ values) (values_from (map (λ f. f.kind) (drop l.field-index l.fields)) l.rest) ≡ values_from (map (λ f. f.kind) l.fields) l.bytes)
