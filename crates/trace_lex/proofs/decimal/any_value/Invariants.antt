use Rattle.std.proofs.Common.{◌≡◌, ◌≤◌, drop}
use Rattle.trace_lex.specs.Decimals.{value_after}
use Rattle.trace_lex.proofs.decimal.any_value.Given as goal

abbrev pub invariant-loop-digit : goal.invariant-loop-digit
invariant-loop-digit l =
    (value_after l.value (drop l.digit-index l.digits) ≡ value_after 0 l.digits) × (l.value ≤ l.most)
