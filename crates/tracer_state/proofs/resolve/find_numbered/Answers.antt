use Rattle.std.proofs.Common.{sym, arith}
use Rattle.tracer_state.proofs.NumberedEvents.{event-numbered, index-numbered, named-numbered, none-beyond}
use Rattle.tracer_state.proofs.resolve.find_numbered.Goals as goal

pub returns-then-number-len-clause-event : goal.returns-then-number-len-clause-event
returns-then-number-len-clause-event c = sym (none-beyond c.args.catalog.now c.args.number (omega arith))

pub returns-clause-event : goal.returns-clause-event
returns-clause-event c = event-numbered c.args.catalog.now c.args.number c.numbered.result c.numbered.ensures.numbered

pub returns-clause-named : goal.returns-clause-named
returns-clause-named c = named-numbered c.args.catalog.now c.args.number c.numbered.result c.numbered.ensures.numbered c.numbered.ensures.named

pub returns-clause-index : goal.returns-clause-index
returns-clause-index c = index-numbered c.args.catalog.now c.args.number c.numbered.result c.numbered.ensures.index c.numbered.ensures.named
