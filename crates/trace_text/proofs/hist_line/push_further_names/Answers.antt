use Rattle.std.proofs.Common.{ℕ, List, ◌++◌, codes, ap, ◌∙◌}
use Rattle.trace_format.proofs.LoopLemmas.{left}
use Rattle.trace_text.proofs.LoopLemmas.{one_more_after}
use Rattle.trace_text.proofs.hist_line.push_further_names.Goals as goal

pub loop-name-preserved : goal.loop-name-preserved
loop-name-preserved c =
    let first = left c.args.names.now c.loop-name.name-index c.name-item.result c.loop-name-test.true c.name-item.is in
    one_more_after (λ name. name) (codes ",") c.name-item.result _ _ _ _ _ _ first c.in_ok-push.ensures.text
    (c.in_ok-extend_from_slice.ensures.items ∙ ap (λ (name : List ℕ). c.push.new.out.items ++ name) c.as_bytes.ensures) c.loop-name.invariant
