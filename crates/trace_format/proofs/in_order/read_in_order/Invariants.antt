use Rattle.std.proofs.Common.{◌≡◌, ◌++◌, length, map, take, drop, option_map}
use Rattle.trace_format.specs.Cells.{datum_of}
use Rattle.trace_format.specs.private.InOrder.{values_in_order}
use Rattle.trace_format.proofs.in_order.read_in_order.Given as goal

-- there are as many pairs, types and values as fields; the types and the values so far and those that are left are those of all
abbrev pub invariant-loop-i : goal.invariant-loop-i
invariant-loop-i l = (length l.fields ≡ length l.pairs) × (length l.kinds.items ≡ length l.fields) × (length l.values.items ≡ length l.fields)
    × (take l.i l.kinds.items ++ map (λ f. f.kind) (drop l.i l.fields) ≡ map (λ f. f.kind) l.fields)
    × (option_map (λ values. map datum_of (take l.i l.values.items) ++ values) (values_in_order (drop l.i l.fields) (drop l.i l.pairs)) ≡ values_in_order l.fields l.pairs)
