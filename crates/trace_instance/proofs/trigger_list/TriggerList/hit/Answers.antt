use Rattle.std.proofs.Common.{◌≡◌, ◌∙◌, List, Bool, false, get_or, ap, arith, subst, sym}
use Rattle.std.proofs.lemmas.List.{take_all}
use Rattle.trace_trigger.specs.SameSpecs.{is_passed}
use Rattle.trace_instance.specs.KeptHists.{IsHitIf, kept_at, rows_counted}
use Rattle.trace_instance.specs.declared.hists.AttachedHist.{AttachedHist}
use Rattle.trace_instance.proofs.EachHist.{passed_here, reached-more, ready-here, room-here, unreached-more}
use Rattle.trace_instance.proofs.TriggerLists.{all-seen, here, past-snapshot}
use Rattle.trace_instance.proofs.trigger_list.TriggerList.hit.Goals as goal
use Rattle.trace_instance.proofs.trigger_list.TriggerList.hit.Goals.{in-Hist, in-Snapshot, then-passed-k, else-passed-k}

pub bounds-passed-k : goal.bounds-passed-k
bounds-passed-k c = (here c.loop-trigger.invariant.at c.loop-trigger-test.true c.trigger-item.is c.in-Hist.is).small

pub overflow_add-k : goal.overflow_add-k
overflow_add-k c =
    omega (arith, (here c.loop-trigger.invariant.at c.loop-trigger-test.true c.trigger-item.is c.in-Hist.is).small)

pub hit-requires-clause-ready : goal.hit-requires-clause-ready
hit-requires-clause-ready c =
    let e = c.args.emission.now in
    let hists = c.args.self.now.hists in
    let at = here c.loop-trigger.invariant.at c.loop-trigger-test.true c.trigger-item.is c.in-Hist.is in
    let knows : get_or c.args.passed.now c.loop-trigger.k false ≡ is_passed c.in-Hist.hist.spec.filter e =
    ap (λ (l : List Bool). get_or l c.loop-trigger.k false) c.requires.passed
    ∙ passed_here e hists c.loop-trigger.k c.in-Hist.hist at.inside at.small at.is in
    rw c.deref.ensures (ready-here e hists c.loop-trigger.k c.in-Hist.hist c.args.tables.now c.loop-trigger.tables at.inside at.is (sym knows ∙ c.if-passed-k.true)
    c.loop-trigger.invariant.reached)

pub hit-requires-clause-few : goal.hit-requires-clause-few
hit-requires-clause-few c =
    let at = here c.loop-trigger.invariant.at c.loop-trigger-test.true c.trigger-item.is c.in-Hist.is in
    room-here c.args.emission.now c.args.self.now.hists c.loop-trigger.k
    c.in-Hist.hist c.args.tables.now c.loop-trigger.tables at.small at.inside at.is c.loop-trigger.invariant.reached

pub loop-trigger-preserved : goal.loop-trigger-preserved
loop-trigger-preserved c =
    let e = c.args.emission.now in
    let hists = c.args.self.now.hists in
    let k = c.loop-trigger.k in
    let was = c.loop-trigger.invariant in
    elim c.match-trigger.branch [
      | in-Snapshot w ↦
          rw (w.k-is, w.tables-is) (record { at = past-snapshot was.at c.loop-trigger-test.true c.trigger-item.is w.in-Snapshot.is; reached = was.reached })
      | in-Hist w ↦
          let a = w.in-Hist.hist in
          let at = here was.at c.loop-trigger-test.true c.trigger-item.is w.in-Hist.is in
          let knows : get_or c.args.passed.now k false ≡ is_passed a.spec.filter e =
          ap (λ (l : List Bool). get_or l k false) c.requires.passed ∙ passed_here e hists k a at.inside at.small at.is in
          elim w.if-passed-k.branch [
            | then-passed-k v ↦ rw (w.k-is, w.tables-is, v.tables-is) (record {
              at = at.next;
              reached = reached-more e hists k a c.args.tables.now c.loop-trigger.tables v.hit.new.tables c.requires.agree at.inside at.is
                  (sym knows ∙ v.if-passed-k.true) (rw v.deref.ensures at v.hit.ensures.hit) v.hit.ensures.others was.reached;
            })
            | else-passed-k v ↦ rw (w.k-is, w.tables-is, v.tables-is) (record {
              at = at.next;
              reached = unreached-more e hists k a c.args.tables.now c.loop-trigger.tables at.inside at.is (sym knows ∙ v.if-passed-k.false) was.reached;
            })
          ]
    ]

pub returns : goal.returns
returns c = λ number.
    let all = take_all c.loop-trigger.k c.args.self.now.hists (all-seen c.loop-trigger.invariant.at c.loop-trigger-test.false) in
    let e = c.args.emission.now in
    subst (λ (l : List AttachedHist). IsHitIf (λ paused. rows_counted number paused l e) (kept_at number c.args.tables.now) (kept_at number c.loop-trigger.tables))
    all (c.loop-trigger.invariant.reached.hit number)
