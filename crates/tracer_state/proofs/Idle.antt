-- An emission that no instance wants leaves each as it is.
use Rattle.std.proofs.Common.{◌≡◌, false, List, [], get_or, refl, ap, ◌∙◌}
use Rattle.trace_instance.specs.Deliveries.{IsDelivered, row_of}
use Rattle.trace_instance.specs.Instances.{InstanceSeen}
use Rattle.trace_instance.specs.KeptHists.{kept_at, rows_counted}
use Rattle.trace_instance.specs.declared.change.Delivery.{Delivery}
use Rattle.trace_instance.specs.declared.change.Reach.{Reach}
use Rattle.trace_instance.specs.declared.hists.AttachedHist.{AttachedHist}
use Rattle.trace_instance.proofs.EachHist.{none-hit-yet, nothing-counted}
use Rattle.trace_instance.proofs.LiveSide.{delivered_still, taken_in, unwritten}
use Rattle.tracer_state.specs.States.{AllReached, EachDelivered, StaysUnlessWanted, reach_at}
use Rattle.tracer_state.specs.declared.state.Named.{Named}

undelivered : (d : Delivery) (reach : Reach) (i : InstanceSeen) → reach.records ≡ false → reach.snapshot_fires ≡ false → get_or i.hists d.event [] ≡ []
    → IsDelivered d reach i i
undelivered d reach i unrecorded still none =
    delivered_still d reach i i (taken_in d reach i i i (unwritten d reach i unrecorded) (record {
      rest = refl;
      tables = λ number. none-hit-yet _ (kept_at number i.tables)
          (λ paused. ap (λ (l : List AttachedHist). rows_counted number paused l (row_of d)) none ∙ nothing-counted number (row_of d) paused);
    })) still

pub undelivered-each : (d : Delivery) (instances : List Named) → d.wanted ≡ false → AllReached (StaysUnlessWanted d) d.reaches instances
    → EachDelivered d instances instances
undelivered-each d instances off idle = record {
  many = refl;
  names = λ k n inside. refl;
  came = λ k n inside.
      let nothing = idle k n inside off in
      undelivered d (reach_at d.reaches k) (get_or instances k n).instance nothing.0 nothing.1 nothing.2;
}
