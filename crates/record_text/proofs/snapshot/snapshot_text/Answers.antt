use Rattle.std.proofs.Common.{◌∙◌}
use Rattle.std.proofs.lemmas.Result.{IfOk-weaker}
use Rattle.record_text.proofs.snapshot.snapshot_text.Goals as goal

pub returns : goal.returns
returns c =
    IfOk-weaker c.copied_snapshot_text.result _ _
    (λ shown written families stands pages page_bytes shape. written ∙ c.in_ok-copy.ensures c.args.catalog.now families stands pages page_bytes shape)
    c.copied_snapshot_text.ensures
