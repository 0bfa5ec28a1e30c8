use Rattle.trace_lex.proofs.DecimalLemmas.{few_are}
use Rattle.trace_lex.proofs.numeral.decimal_digits.Goals as goal

pub returns-then-text-le-FITTING_DIGITS : goal.returns-then-text-le-FITTING_DIGITS
returns-then-text-le-FITTING_DIGITS c = few_are c.args.text.now c.few_digits.result c.few_digits.ensures.value c.few_digits.ensures.bound
