use Rattle.std.proofs.Common.{rules}
use Rattle.ticket_lock.proofs.Steps.{allows_look, allows_watch, allows_draw}
use Rattle.ticket_lock.proofs.Looked.{idle_since, idle_watched}
use Rattle.ticket_lock.proofs.lock.TicketLock.draw.Goals as goal

pub load-next-requires : goal.load-next-requires
load-next-requires g c = (search rules, search rules, allows_look _ _ _ _ _ _ _ _ c.requires.idle)

pub load-serving-requires : goal.load-serving-requires
load-serving-requires g c =
    (search rules, search rules, allows_watch _ _ _ _ _ _ _ _ (idle_since c.args.seat.now.me _ _ c.load-next.ensures.2.0 c.requires.idle))

pub compare_exchange-found-requires : goal.compare_exchange-found-requires
compare_exchange-found-requires g c =
    let idle = idle_since c.args.seat.now.me _ _ c.load-next.ensures.2.0 c.requires.idle in
    (search rules, search rules, allows_draw _ _ _ _ _ _ _ _ _ (idle_watched _ _ c.load-serving.result c.load-serving.ensures.2.0 c.load-serving.ensures.2.1 idle) c.if-next-ge-LAST.false)
