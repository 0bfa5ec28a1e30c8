use Rattle.std.proofs.Common.{◌≡◌, ◌≤◌, ◌+◌, ◌*◌, ◌^◌, drop}
use Rattle.trace_lex.specs.Decimals.{value_after}
use Rattle.trace_lex.proofs.decimal.few_value.Given as goal

-- the digits that are left give the value of all, and so far it is small: each counts for 207 at most, which is 23 times 9
abbrev pub invariant-loop-digit : goal.invariant-loop-digit
invariant-loop-digit l = (value_after l.value (drop l.digit-index l.digits) ≡ value_after 0 l.digits) × (l.value + 23 ≤ 23 * 10 ^ l.digit-index)
