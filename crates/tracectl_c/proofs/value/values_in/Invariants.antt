use Rattle.std.proofs.Common.{◌≡◌, ◌≤◌, ◌+◌, ◌-◌, ◌++◌, length, drop, vec_len, vec_capacity}
use Rattle.std.specs.Option.{option_map}
use Rattle.tracectl_c.specs.GivenValues.{values_in}
use Rattle.tracectl_c.proofs.value.values_in.Given as goal

-- there is room for all values; those so far and those that are left are all
abbrev pub invariant-loop-value : goal.invariant-loop-value
invariant-loop-value l = (vec_len l.list + (length l.values - l.value-index) ≤ vec_capacity l.list)
    × (option_map (λ more. l.list.items ++ more) (values_in (drop l.value-index l.values)) ≡ values_in l.values)
