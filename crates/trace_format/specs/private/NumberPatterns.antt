-- Numbers that are written without a sign.
use Rattle.std.specs.Prelude.{ℕ, pos, ◌^◌, int_le, if◌then◌else◌, List, Option, None, Some, option_and_then}
use Rattle.trace_lex.specs.Numbers.{magnitude_of, below}
use Rattle.trace_format.specs.declared.kind.NumberType.{NumberType}
use Rattle.trace_format.specs.Kinds.{greatest}

-- the value of a numeral without a sign, if the type has it
abbrev pub magnitude_in : NumberType → List ℕ → Option ℕ
magnitude_in t text = option_and_then (λ n. if int_le (pos n) (greatest t) then Some n else None) (below (2 ^ 64) (magnitude_of text))
