use Rattle.std.proofs.Common.{ℕ, List, ◌++◌, codes, ap, ◌∙◌}
use Rattle.trace_format.proofs.LoopLemmas.{left}
use Rattle.trace_format.specs.declared.key.Key.{Key}
use Rattle.trace_text.proofs.LoopLemmas.{one_more_after}
use Rattle.trace_text.proofs.hist_line.push_further_keys.Goals as goal

pub loop-key-preserved : goal.loop-key-preserved
loop-key-preserved c =
    let first = left c.args.keys.now c.loop-key.key-index c.key-item.result c.loop-key-test.true c.key-item.is in
    one_more_after (λ (key : Key). key.written) (codes ",") c.key-item.result _ _ _ _ _ _ first c.in_ok-push.ensures.text
    (c.in_ok-extend_from_slice.ensures.items ∙ ap (λ (written : List ℕ). c.push.new.out.items ++ written) c.as_bytes.ensures) c.loop-key.invariant
