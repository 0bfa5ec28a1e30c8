use Rattle.std.proofs.Common.{◌≡◌, drop}
use Rattle.trace_lex.proofs.NumberLemmas.{digits_after}
use Rattle.trace_lex.proofs.numeral.digits.Given as goal

-- the digits that are left give the value of all
abbrev pub invariant-loop-byte : goal.invariant-loop-byte
invariant-loop-byte l = digits_after l.base l.value (drop l.byte-index l.text) ≡ digits_after l.base 0 l.text
