use Rattle.std.proofs.Common.{codes}
use Rattle.trace_format.proofs.LoopLemmas.{left}
use Rattle.trace_text.specs.TriggerText.{sort_text}
use Rattle.trace_text.proofs.LoopLemmas.{one_more_after}
use Rattle.trace_text.proofs.hist_line.push_further_sort_keys.Goals as goal

pub loop-key-preserved : goal.loop-key-preserved
loop-key-preserved c =
    let first = left c.args.keys.now c.loop-key.key-index c.key-item.result c.loop-key-test.true c.key-item.is in
    one_more_after sort_text (codes ",") c.key-item.result _ _ _ _ _ _ first c.in_ok-push.ensures.text c.in_ok-push_sort_key.ensures c.loop-key.invariant
