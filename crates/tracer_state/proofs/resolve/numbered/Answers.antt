use Rattle.std.proofs.Common.{◌≡◌, Some, sym}
use Rattle.trace_format.specs.Catalogs.{event_of}
use Rattle.tracer_specification.proofs.Events.{index_of_id}
use Rattle.tracer_state.proofs.resolve.numbered.Goals as goal

pub returns-clause-index : goal.returns-clause-index
returns-clause-index c name named =
    let events = c.args.catalog.now in
    let there : event_of events c.args.id ≡ Some c.in_ok-event.event.now = sym c.in_ok-event.ensures.event in
    rw c.from.ensures (index_of_id events name c.args.id c.in_ok-event.event.now named there)
