use Rattle.std.proofs.Common.{◌<◌, arith}
use Rattle.trace_lex.proofs.NumberLemmas.{few_power}
use Rattle.trace_lex.proofs.decimal.few_digits.Goals as goal

-- digits so far that are fewer than 19 leave room for one more
pub overflow_mul-value : goal.overflow_mul-value
overflow_mul-value c =
    let within : c.loop-byte.byte-index < 19 = omega (arith, c.requires.few) in
    let small = few_power c.loop-byte.byte-index within in
    grind (arith, c.loop-byte.invariant.2)

pub overflow_add-value : goal.overflow_add-value
overflow_add-value c =
    let within : c.loop-byte.byte-index < 19 = omega (arith, c.requires.few) in
    let small = few_power c.loop-byte.byte-index within in
    grind (arith, c.loop-byte.invariant.2)
