use Rattle.std.proofs.Common.{◌≡◌, ◌≤◌, ◌+◌, ◌-◌, ◌++◌, length, map, drop, vec_len, vec_capacity}
use Rattle.trace_format.proofs.row.fill_kinds.Given as goal

-- there is room for the types of all fields; the types so far and those of the fields that are left are those of all
abbrev pub invariant-loop-field : goal.invariant-loop-field
invariant-loop-field l = (vec_len l.kinds + (length l.fields - l.field-index) ≤ vec_capacity l.kinds)
    × (l.kinds.items ++ map (λ f. f.kind) (drop l.field-index l.fields) ≡ map (λ f. f.kind) l.fields)
