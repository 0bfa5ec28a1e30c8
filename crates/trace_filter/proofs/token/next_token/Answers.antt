use Rattle.std.proofs.Common.{length, length-drop, sym, ap, ◌∙◌, arith}
use Rattle.std.specs.List.{prefix_len}
use Rattle.std.proofs.lemmas.List.{nil_from_length}
use Rattle.trace_lex.specs.Blanks.{is_blank}
use Rattle.trace_filter.proofs.SpotLemmas.{no_token, next_token_at}
use Rattle.trace_filter.proofs.token.next_token.Goals as goal

pub returns-in_err-first-clause-none : goal.returns-in_err-first-clause-none
returns-in_err-first-clause-none c =
    rw c.from_residual.ensures
    (no_token c.args.text.now c.args.value_due c.args.from c.blanks_len.result (c.blanks_len.ensures.value ∙ ap (prefix_len is_blank) c.rest_of.ensures)
    (sym c.rest_of-bytes.ensures ∙ nil_from_length c.rest_of-bytes.result.now c.in_err-first.ensures.cases))

pub returns-clause-some : goal.returns-clause-some
returns-clause-some c =
    next_token_at c.args.text.now c.args.value_due c.args.from c.blanks_len.result (c.blanks_len.ensures.value ∙ ap (prefix_len is_blank) c.rest_of.ensures)
    c.in_ok-first.first.now c.in_ok-first.rest.now c.first_piece-piece.result
    (sym c.rest_of-bytes.ensures ∙ c.in_ok-first.ensures.cases.0) c.first_piece-piece.ensures
    (omega (arith, ap length c.rest_of.ensures, length-drop c.args.from c.args.text.now))
