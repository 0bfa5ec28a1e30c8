use Rattle.std.proofs.Common.{◌<◌, arith}
use Rattle.trace_lex.proofs.NumberLemmas.{fewer_power}
use Rattle.trace_lex.proofs.decimal.few_value.Goals as goal

-- digits so far that are fewer than 17 leave room for one more byte
pub overflow_mul-value : goal.overflow_mul-value
overflow_mul-value c =
    let within : c.loop-digit.digit-index < 17 = omega (arith, c.requires.few) in
    let small = fewer_power c.loop-digit.digit-index within in
    grind (arith, c.loop-digit.invariant.1)

pub overflow_add-value : goal.overflow_add-value
overflow_add-value c =
    let within : c.loop-digit.digit-index < 17 = omega (arith, c.requires.few) in
    let small = fewer_power c.loop-digit.digit-index within in
    grind (arith, c.loop-digit.invariant.1)
