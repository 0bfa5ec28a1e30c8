use Rattle.std.proofs.Common.{◌≡◌, ◌<◌, ◌^◌, drop}
use Rattle.std.specs.List.{list_all}
use Rattle.trace_lex.specs.Decimals.{is_digit, value_after}
use Rattle.trace_lex.proofs.decimal.few_digits.Given as goal

-- the bytes that are left are digits exactly where all are, and give the value of all; so far it is small
abbrev pub invariant-loop-byte : goal.invariant-loop-byte
invariant-loop-byte l =
    (list_all is_digit (drop l.byte-index l.text) ≡ list_all is_digit l.text) × (value_after l.value (drop l.byte-index l.text) ≡ value_after 0 l.text) × (l.value < 10 ^ l.byte-index)
