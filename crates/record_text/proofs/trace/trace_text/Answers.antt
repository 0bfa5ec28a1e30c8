use Rattle.std.proofs.Common.{◌∙◌}
use Rattle.std.proofs.lemmas.Result.{IfOk-weaker}
use Rattle.record_text.proofs.trace.trace_text.Goals as goal

pub returns : goal.returns
returns c =
    IfOk-weaker c.text.result _ _ (λ shown written family h. written ∙ c.in_ok-trace_copy.ensures c.args.catalog.now family h) c.text.ensures
