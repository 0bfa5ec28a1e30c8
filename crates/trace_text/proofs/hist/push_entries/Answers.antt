use Rattle.std.proofs.Common.{ap, map}
use Rattle.trace_format.proofs.LoopLemmas.{left}
use Rattle.hist_entries.specs.PrintOrder.{row_in}
use Rattle.trace_text.specs.EntryText.{entry_line}
use Rattle.record_text.proofs.LoopLemmas.{one_more}
use Rattle.trace_text.proofs.hist.push_entries.Goals as goal

pub loop-entry-preserved : goal.loop-entry-preserved
loop-entry-preserved c =
    let spec = c.args.spec.now in
    let first = ap (map row_in) (left c.args.entries.now c.loop-entry.entry-index c.entry-item.result c.loop-entry-test.true c.entry-item.is) in
    one_more (entry_line spec.keys spec.values) (row_in c.entry-item.result) _ _ _ _ _ first c.in_ok-push_entry_line.ensures c.loop-entry.invariant
