use Rattle.std.proofs.Common.{arith, refl}
use Rattle.trace_lex.proofs.DecimalLemmas.{too_much}
use Rattle.trace_lex.proofs.decimal.any_value.Goals as goal

pub returns-then-next-from : goal.returns-then-next-from
returns-then-next-from c =
    rw (too_much c.args.most c.loop-digit.value c.loop-digit.digit-index c.args.digits.now (omega arith) c.loop-digit.invariant.0 (omega arith)) refl
