use Rattle.std.proofs.Common.{◌<◌, length, sym, ◌∙◌, arith}
use Rattle.std.proofs.lemmas.List.{at_drop_all, at_drop_more}
use Rattle.std.proofs.lemmas.Bool.Decides.{nat_tests}
use Rattle.trace_lex.proofs.NumberLemmas.{digits_after, digits_is}
use Rattle.trace_lex.proofs.numeral.digits.Goals as goal

pub returns-in_err-value : goal.returns-in_err-value
returns-in_err-value c =
    let text = c.args.text.now in
    let more = at_drop_more (digits_after c.args.base c.loop-byte.value) text c.loop-byte.byte-index 0 (omega arith) in
    let some : 0 < length text = omega arith in
    let all = digits_is c.args.base text (omega arith) some in
    grind arith

pub returns : goal.returns
returns c =
    let text = c.args.text.now in
    let some : 0 < length text = grind (arith, nat_tests) in
    sym (at_drop_all (digits_after c.args.base c.loop-byte.value) text c.loop-byte.byte-index (omega arith)) ∙ c.loop-byte.invariant ∙ digits_is c.args.base text (omega arith) some
