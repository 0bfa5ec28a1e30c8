use Rattle.std.proofs.Common.{◌≤◌, ◌-◌, length, arith}
use Rattle.trace_trigger.proofs.FaultOffsets.{told_within, within_longer}
use Rattle.trace_trigger.proofs.condition.read_filter.Goals as goal

pub of_filter-requires : goal.of_filter-requires
of_filter-requires c =
    let inside : length c.in-Some.condition.now ≤ length c.args.text.now = grind arith in
    within_longer (length c.in-Some.condition.now) (18446744073709551615 - (length c.args.text.now - length c.in-Some.condition.now)) c.in-Err.fault
    (omega (arith, inside)) (told_within c.args.event.now c.in-Some.condition.now c.in-Err.fault c.in-Err.ensures.refused)
