use Rattle.std.proofs.Common.{◌≡◌, ◌+◌, ◌-◌, ◌≤◌, length, vec_len, vec_capacity}
use Rattle.trace_format.proofs.in_order.fill_up.Given as goal

-- there are as many types as asked for, and room for as many values
abbrev pub invariant-loop : goal.invariant-loop
invariant-loop l = (length l.kinds.items ≡ l.len) × (length l.values.items ≡ l.counter) × (vec_len l.values + (l.len - l.counter) ≤ vec_capacity l.values)
