use Rattle.std.proofs.Common.{rules}
use Rattle.ticket_lock.proofs.AtCalls.{leaves_now}
use Rattle.ticket_lock.proofs.lock.TicketLock.release.Goals as goal

pub store-requires : goal.store-requires
store-requires g c = (
  search rules,
  search rules,
  leaves_now _ _ _ _ _ _ _ c.args.held.turn.ticket _ _ c.args.held.value c.exchange-before.ensures.3 c.args.held.turn.holding c.args.held.turn.blank c.requires.base c.requires.entries,
)
