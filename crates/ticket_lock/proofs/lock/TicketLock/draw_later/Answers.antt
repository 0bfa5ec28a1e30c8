use Rattle.std.proofs.Common.{rules}
use Rattle.ticket_lock.proofs.Looked.{idle_now, since_looked, drawn_since, worn_since}
use Rattle.ticket_lock.proofs.lock.TicketLock.draw_later.Goals as goal

pub draw-requires-clause-idle : goal.draw-requires-clause-idle
draw-requires-clause-idle g c = idle_now _ _ c.loop.invariant.4 c.requires.idle

pub loop-preserved : goal.loop-preserved
loop-preserved g c = (tt, tt, search rules, search rules, since_looked _ _ c.loop.invariant.4 _ (search rules))

pub returns-in-Ok-clause-some : goal.returns-in-Ok-clause-some
returns-in-Ok-clause-some g c = (drawn_since _ _ c.loop.invariant.4 _ _ (search rules), search rules)

pub returns-in-Err-clause-none : goal.returns-in-Err-clause-none
returns-in-Err-clause-none g c = worn_since _ _ c.loop.invariant.4 _ (search rules) (search rules) (search rules)
