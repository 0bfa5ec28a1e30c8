use Rattle.std.proofs.Common.{rules}
use Rattle.ticket_lock.proofs.lock.one_slot.Goals as goal

pub returns-clause-ok : goal.returns-clause-ok
returns-clause-ok g c = (c.in_ok-boxed.boxed, search rules, search rules)
