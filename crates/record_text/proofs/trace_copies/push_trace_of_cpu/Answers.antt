use Rattle.std.proofs.lemmas.Result.{on_ok_weaker}
use Rattle.record_text.proofs.BufferLemmas.{cpu_copied}
use Rattle.record_text.proofs.trace_copies.push_trace_of_cpu.Goals as goal

pub returns : goal.returns
returns c =
    let headed = rw (c.from-kept.ensures, c.from.ensures) at c.in_ok-push_trace_head.ensures in
    on_ok_weaker c.push_kept.result
    (λ written. cpu_copied c.args.catalog.now c.args.copy.now c.stats-stats.result _ _ _ _ c.stats-stats.ensures c.kept.ensures.records headed written)
    c.push_kept.ensures
