use Rattle.std.proofs.Common.{◌≡◌, ℕ, ◌++◌, length, min, replicate, ap, subst, arith}
use Rattle.std.proofs.Common.{is_some}
use Rattle.page_ring.specs.Account.{readings_of}
use Rattle.page_ring.specs.Events as event
use Rattle.page_ring.specs.Shown as shown
use Rattle.trace_buffer.proofs.TakenFrom.{none_left}
use Rattle.trace_buffer.proofs.buffer.take_from.Goals as goal

pub returns-in_default-clause-answer : goal.returns-in_default-clause-answer
returns-in_default-clause-answer c = λ events h.
    let least = none_left c.least_is_read.ensures.rest c.args.ring.now.pages c.args.ring.now.page_bytes _ _ events c.loop-count.count _
    c.loop-count.invariant.pages c.loop-count.invariant.page_bytes
    (c.take.ensures.answer _ (c.loop-count.invariant.stands events h)) c.in_default.is in
    omega (arith, least, c.loop-count.invariant.kept events h)

pub returns-in_default-clause-stands : goal.returns-in_default-clause-stands
returns-in_default-clause-stands c = λ events h.
    let count : c.loop-count.count ≡ min c.args.limit (length (readings_of c.args.ring.now.pages c.args.ring.now.page_bytes events))
    = returns-in_default-clause-answer c events h in
    subst (λ (n : ℕ). shown.StandsFor c.take.new.self (events ++ replicate n event.Take)) count
    (c.take.ensures.none _ (ap is_some c.in_default.is) (c.loop-count.invariant.stands events h))
