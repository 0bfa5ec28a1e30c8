use Rattle.std.proofs.Common.{◌≡◌, ◌++◌, map, drop}
use Rattle.refusal_explanations.specs.Layout.{pad_byte}
use Rattle.refusal_explanations.proofs.layout.push_padding.Given as goal

-- what was written and what is left to write are all
abbrev pub invariant-loop-byte : goal.invariant-loop-byte
invariant-loop-byte l = l.out.items ++ map pad_byte (drop l.byte-index l.above) ≡ l.initial.out.items ++ map pad_byte l.above
