use Rattle.std.proofs.Common.{◌≡◌, ◌-◌, ◌++◌, length, take}
use Rattle.trace_format.specs.Cells.{little_endian}
use Rattle.trace_format.proofs.payload.encode_low_bytes.Given as goal

-- what was written, and what is left of the number
abbrev pub invariant-loop-byte : goal.invariant-loop-byte
invariant-loop-byte l = take l.byte-index l.out ++ little_endian (length l.out - l.byte-index) l.left ≡ little_endian (length l.initial.out) l.number
