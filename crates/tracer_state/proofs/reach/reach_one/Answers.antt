use Rattle.tracer_state.proofs.PlannedReach.{planned-unasked}
use Rattle.tracer_state.proofs.ReservedEach.{no-hists}
use Rattle.tracer_state.proofs.EachInstance.{neither}
use Rattle.tracer_state.proofs.reach.reach_one.Goals as goal

pub returns-then-not-asks : goal.returns-then-not-asks
returns-then-not-asks c =
    let is = planned-unasked c.args.instance.now c.args.event c.args.emission.now c.args.plan c.unasked.result c.requires.planned
    (c.asks.ensures c.if-not-asks.true) c.unasked.ensures in
    record { reach = is.reach; snapshot_fires = λ off. is.snapshot_fires; hists = λ off. is.hists }

pub returns-clause-snapshot_fires : goal.returns-clause-snapshot_fires
returns-clause-snapshot_fires c = λ off. (neither c.reach-reach.result.snapshot_fires c.has_hists.result off).0

pub returns-clause-hists : goal.returns-clause-hists
returns-clause-hists c = λ off.
    no-hists _ c.has_hists.result c.has_hists.ensures (neither c.reach-reach.result.snapshot_fires c.has_hists.result off).1
