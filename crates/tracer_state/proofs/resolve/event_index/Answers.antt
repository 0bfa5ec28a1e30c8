use Rattle.tracer_state.proofs.Resolving.{index-named}
use Rattle.tracer_state.proofs.resolve.event_index.Goals as goal

pub returns-in-Some : goal.returns-in-Some
returns-in-Some c =
    let indexed = c.in-Some.ensures.index in
    (indexed.inside, index-named c.args.catalog.now c.args.name.now c.in-Some.found.index c.in-Some.found.event.now indexed)
