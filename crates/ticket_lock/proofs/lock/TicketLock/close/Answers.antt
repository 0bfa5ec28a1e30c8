use Rattle.ticket_lock.proofs.SeatFields.{idle_stage}
use Rattle.ticket_lock.proofs.AtCalls.{closes, closes_some}
use Rattle.ticket_lock.proofs.lock.TicketLock.close.Goals as goal

pub unreachable-requires : goal.unreachable-requires
unreachable-requires g c =
    let closed = closes _ _ _ _ _ _ _ _ _ _ (idle_stage _ c.args.pass.idle) c.requires.all_names c.close_with-closed.ensures.values.2 c.take-slot.ensures.value in
    c.in_default.not-Some closed.0 closed.1

pub returns-clause-entries : goal.returns-clause-entries
returns-clause-entries g c =
    rw c.into_inner.ensures ((closes_some _ _ _ _ _ _ _ _ _ _ _ (idle_stage _ c.args.pass.idle) c.requires.all_names c.close_with-closed.ensures.values.2 c.take-slot.ensures.value c.in-Some.is).entries_are)

pub returns-clause-base : goal.returns-clause-base
returns-clause-base g c =
    rw c.into_inner.ensures ((closes_some _ _ _ _ _ _ _ _ _ _ _ (idle_stage _ c.args.pass.idle) c.requires.all_names c.close_with-closed.ensures.values.2 c.take-slot.ensures.value c.in-Some.is).base_is)

pub returns-clause-rising : goal.returns-clause-rising
returns-clause-rising g c =
    rw c.into_inner.ensures ((closes_some _ _ _ _ _ _ _ _ _ _ _ (idle_stage _ c.args.pass.idle) c.requires.all_names c.close_with-closed.ensures.values.2 c.take-slot.ensures.value c.in-Some.is).rising)

pub returns-clause-callers : goal.returns-clause-callers
returns-clause-callers g c =
    rw c.into_inner.ensures ((closes_some _ _ _ _ _ _ _ _ _ _ _ (idle_stage _ c.args.pass.idle) c.requires.all_names c.close_with-closed.ensures.values.2 c.take-slot.ensures.value c.in-Some.is).callers)
