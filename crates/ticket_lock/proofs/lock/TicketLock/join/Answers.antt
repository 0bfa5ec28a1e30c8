use Rattle.std.proofs.Common.{rules, ap}
use Rattle.ticket_lock.proofs.SeatFields.{idle_stage, no_slots}
use Rattle.ticket_lock.proofs.Steps.{joins, allows_look}
use Rattle.ticket_lock.proofs.lock.TicketLock.join.Goals as goal

pub join_seat-requires : goal.join_seat-requires
join_seat-requires g c = (
  search rules,
  search rules,
  no_slots _ c.args.second.empty_handed,
  search rules,
  joins _ _ _ _ _ _ _ _ _ (idle_stage _ c.args.first.idle) (idle_stage _ c.args.second.idle) c.requires.adjacent,
)

pub load-requires : goal.load-requires
load-requires g c = (search rules, search rules, allows_look _ _ _ _ _ _ _ _ (ap (λ m. m.0.stage) c.join_seat.ensures.2))
