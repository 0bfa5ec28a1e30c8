use Rattle.std.proofs.Common.{◌≡◌}
use Rattle.ticket_lock.proofs.Looked.{IsSince}
use Rattle.ticket_lock.proofs.lock.TicketLock.draw_later.Given as goal

-- the seat has only looked
abbrev pub invariant-loop : goal.invariant-loop
invariant-loop g l =
    (goal.iterator-loop g).can_next l.iterator' × (goal.iterator-loop g).is_finite l.iterator'
    × (l.seat.table_id ≡ l.fn.seat.table_id)
    × (l.seat.me.1 ≡ l.fn.seat.me.1)
    × IsSince l.fn.seat.me.0 l.seat.me.0
