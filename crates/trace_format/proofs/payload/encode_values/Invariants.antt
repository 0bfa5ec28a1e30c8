use Rattle.std.proofs.Common.{◌≡◌, ◌+◌, ◌++◌, length, map, take, drop}
use Rattle.std.specs.List.{AllZip}
use Rattle.trace_format.specs.Cells.{datum_of, Holds, size_of_all, bytes_of}
use Rattle.trace_format.proofs.payload.encode_values.Given as goal

-- what was written and what is left to write are all
abbrev pub invariant-loop-kind : goal.invariant-loop-kind
invariant-loop-kind l = AllZip Holds (drop (length l.yielded) l.kinds) (map datum_of (drop (length l.yielded) l.values))
    × (l.at + size_of_all (drop (length l.yielded) l.kinds) ≡ length l.out)
    × (take l.at l.out ++ bytes_of (drop (length l.yielded) l.kinds) (map datum_of (drop (length l.yielded) l.values)) ≡ bytes_of l.kinds (map datum_of l.values))
