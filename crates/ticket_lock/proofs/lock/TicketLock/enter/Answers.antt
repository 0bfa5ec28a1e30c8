use Rattle.std.proofs.Common.{rules}
use Rattle.ticket_lock.proofs.Steps.{allows_entry}
use Rattle.ticket_lock.proofs.AtCalls.{takes_slot}
use Rattle.ticket_lock.proofs.lock.TicketLock.enter.Goals as goal

pub load-serving-requires : goal.load-serving-requires
load-serving-requires g c = (search rules, search rules, allows_entry _ _ _ _ _ _ _ c.args.ticket _ c.requires.waiting)

pub exchange-slot-requires : goal.exchange-slot-requires
exchange-slot-requires g c =
    (search rules, takes_slot _ _ _ _ c.args.self.now.table.shared.table_id.slots _ _ _ _ c.requires.waiting c.if-serving-ticket.false c.load-serving.ensures.2)
