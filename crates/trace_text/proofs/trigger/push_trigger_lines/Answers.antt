use Rattle.std.proofs.Common.{ap, map}
use Rattle.trace_format.proofs.LoopLemmas.{left}
use Rattle.trace_text.specs.ShownTriggers.{shown_trigger}
use Rattle.trace_text.specs.TriggerText.{trigger_line}
use Rattle.record_text.proofs.LoopLemmas.{one_more}
use Rattle.trace_text.proofs.trigger.push_trigger_lines.Goals as goal

pub loop-trigger-preserved : goal.loop-trigger-preserved
loop-trigger-preserved c =
    let first = ap (map shown_trigger) (left c.args.shown.now c.loop-trigger.trigger-index c.trigger-item.result c.loop-trigger-test.true c.trigger-item.is) in
    one_more trigger_line (shown_trigger c.trigger-item.result) _ _ _ _ _ first c.in_ok-push_trigger_line.ensures c.loop-trigger.invariant
