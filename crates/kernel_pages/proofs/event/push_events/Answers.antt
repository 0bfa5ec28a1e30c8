use Rattle.std.proofs.Common.{arith, ap, length, List, ℕ}
use Rattle.trace_format.proofs.LoopLemmas.{left}
use Rattle.kernel_pages.proofs.EventLemmas.{first_is_small}
use Rattle.kernel_pages.proofs.event.push_events.Goals as goal

pub push_event-requires-clause-size : goal.push_event-requires-clause-size
push_event-requires-clause-size c =
    let first = left c.args.rows.now c.loop-row.row-index c.row-item.result c.loop-row-test.true c.row-item.is in
    let small = first_is_small c.loop-row.last _ _ _ first c.loop-row.invariant.small in
    omega (arith, small, ap (λ (xs : List ℕ). length xs) c.as_bytes.ensures)
