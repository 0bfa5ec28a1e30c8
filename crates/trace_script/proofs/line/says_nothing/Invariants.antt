use Rattle.std.proofs.Common.{◌≡◌, drop}
use Rattle.trace_script.specs.Lines.{says_nothing}
use Rattle.trace_script.proofs.line.says_nothing.Given as goal

abbrev pub invariant-loop-byte : goal.invariant-loop-byte
invariant-loop-byte l = says_nothing (drop l.byte-index l.line) ≡ says_nothing l.line
