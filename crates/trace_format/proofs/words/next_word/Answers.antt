use Rattle.std.proofs.Common.{◌+◌, take, length, length-drop, sym, ap, ◌∙◌, arith}
use Rattle.std.specs.List.{prefix_len}
use Rattle.std.proofs.lemmas.List.{nil_from_length}
use Rattle.trace_lex.specs.Blanks.{is_blank}
use Rattle.trace_format.proofs.WordLemmas.{no_word, next_word_at}
use Rattle.trace_format.proofs.words.next_word.Goals as goal

pub returns-in_err-first-clause-none : goal.returns-in_err-first-clause-none
returns-in_err-first-clause-none c =
    rw c.from_residual.ensures
    (no_word c.args.text.now c.args.from c.blanks_len.result (c.blanks_len.ensures.value ∙ ap (prefix_len is_blank) c.rest_of.ensures)
    (sym c.rest_of-2.ensures ∙ nil_from_length c.rest_of-2.result.now c.in_err-first.ensures.cases))

pub returns-clause-some : goal.returns-clause-some
returns-clause-some c =
    next_word_at c.args.text.now c.args.from c.blanks_len.result (c.blanks_len.ensures.value ∙ ap (prefix_len is_blank) c.rest_of.ensures)
    c.in_ok-first.first.now c.more_len-size.result c.in_ok-first.rest.now _
    (sym c.rest_of-2.ensures ∙ c.in_ok-first.ensures.cases.0) c.more_len-size.ensures.value (ap (take (1 + c.more_len-size.result)) c.rest_of-3.ensures)
    (omega (arith, ap length c.rest_of.ensures, length-drop c.args.from c.args.text.now))
