use Rattle.std.proofs.Common.{◌≡◌, ◌++◌, length, drop, take}
use Rattle.std.specs.Option.{option_map}
use Rattle.tracectl_c.specs.GivenValues.{values_in}
use Rattle.tracectl_c.proofs.value.put_few.Given as goal

-- the room has its size; those so far and those that are left are all
abbrev pub invariant-loop-index : goal.invariant-loop-index
invariant-loop-index l = (length l.room ≡ 8)
    × (option_map (λ more. take l.index l.room ++ more) (values_in (drop l.index l.values)) ≡ values_in l.values)
