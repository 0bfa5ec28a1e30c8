use Rattle.std.proofs.Common.{sym, ◌∙◌}
use Rattle.library_tracer.proofs.FieldLemmas.{pair_read, no_pair_read, all_read, gives_err}
use Rattle.library_tracer.proofs.fields.pairs.Goals as goal

pub returns-in_err-push_pair : goal.returns-in_err-push_pair
returns-in_err-push_pair c =
    gives_err _ _ _ _ c.from_residual.ensures.1
    (no_pair_read _ _ _ _ _ _ c.loop-rest.invariant c.cut_field.ensures.field c.in_err-push_pair.ensures.err)

pub loop-rest-preserved : goal.loop-rest-preserved
loop-rest-preserved c =
    let pushed = c.in_ok-push_pair.ensures.pair in
    rw pushed.1 (pair_read _ _ _ _ _ _ c.loop-rest.invariant c.cut_field.ensures.field pushed.2)

pub returns : goal.returns
returns c = all_read _ _ _ c.loop-rest.invariant (sym c.is_empty.ensures ∙ c.loop-rest-test.false)
