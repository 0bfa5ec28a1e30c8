use Rattle.std.proofs.Common.{◌∙◌}
use Rattle.ticket_lock.proofs.AtCalls.{opens_boxed}
use Rattle.ticket_lock.proofs.lock.TicketLock.starting_at.Goals as goal

pub new-requires : goal.new-requires
new-requires g c =
    opens_boxed _ _ _ _ _ _ _ c.in_ok-slots.ensures.ok.0 _ c.of.ensures c.in_ok-slots.ensures.ok.2 c.in_ok-slots.ensures.ok.1 c.requires.first c.requires.rising c.requires.below c.requires.callers

pub only-requires : goal.only-requires
only-requires g c = (c.in_ok-slots.ensures.ok.0, c.in-Err.ensures.err ∙ c.in_ok-slots.ensures.ok.1)
