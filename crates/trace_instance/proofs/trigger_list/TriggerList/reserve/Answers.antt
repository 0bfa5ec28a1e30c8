use Rattle.std.proofs.Common.{◌≡◌, ◌∙◌, ◌+◌, true, Result, Ok, Err, OnErr, set, arith, sym, take}
use Rattle.std.proofs.lemmas.List.{take_all}
use Rattle.trace_trigger.specs.SameSpecs.{is_passed}
use Rattle.trace_instance.specs.KeptHists.{passed}
use Rattle.trace_instance.proofs.EachHist.{memory-needed, passed-more, reserved-more, unreserved-more, untouched-more}
use Rattle.trace_instance.proofs.TriggerLists.{all-seen, here, past-snapshot}
use Rattle.trace_instance.proofs.trigger_list.TriggerList.reserve.Goals as goal
use Rattle.trace_instance.proofs.trigger_list.TriggerList.reserve.Goals.{in-Hist, in-Snapshot, then-passes+in_ok-reserve-in-Hist, else-passes}

refused : {A E P : Type 0} (result : Result A E) → P → OnErr result P
refused (Ok value) is = tt
refused (Err error) is = is

pub bounds-passed-k : goal.bounds-passed-k
bounds-passed-k c = (here c.loop-trigger.invariant.at c.loop-trigger-test.true c.trigger-item.is c.in-Hist.is).small

pub overflow_add-k : goal.overflow_add-k
overflow_add-k c =
    omega (arith, (here c.loop-trigger.invariant.at c.loop-trigger-test.true c.trigger-item.is c.in-Hist.is).small)

pub loop-trigger-preserved : goal.loop-trigger-preserved
loop-trigger-preserved c =
    let e = c.args.emission.now in
    let hists = c.args.self.now.hists in
    let k = c.loop-trigger.k in
    let was = c.loop-trigger.invariant in
    elim c.match-trigger.branch [
      | in-Snapshot w ↦
          rw (w.k-is, w.tables-is, w.passed-is)
          (record {
            at = past-snapshot was.at c.loop-trigger-test.true c.trigger-item.is w.in-Snapshot.is;
            passed = was.passed;
            alike = was.alike;
            ready = was.ready;
            untouched = was.untouched;
          })
      | in-Hist w ↦
          let a = w.in-Hist.hist in
          let at = here was.at c.loop-trigger-test.true c.trigger-item.is w.in-Hist.is in
          let on = sym w.passes-passes.ensures in
          let more : set c.loop-trigger.passed k w.passes-passes.result ≡ passed e (take (k + 1) hists) =
          rw (was.passed, w.passes-passes.ensures) (passed-more e hists k a at.inside at.small at.is) in
          elim w.if-passes.branch [
            | then-passes+in_ok-reserve-in-Hist v ↦ rw (w.k-is, w.tables-is, v.tables-is, w.passed-is) (record {
              at = at.next;
              passed = more;
              alike = λ n. v.reserve.ensures.alike n ∙ was.alike n;
              ready = reserved-more e hists k a c.loop-trigger.tables v.reserve.new.tables c.requires.agree at.inside at.is v.reserve.ensures.others
                  (rw v.deref.ensures at v.in_ok-reserve-in-Hist.ensures.ready) was.ready;
              untouched = untouched-more e hists k a c.args.tables.now c.loop-trigger.tables v.reserve.new.tables at.inside at.is (on ∙ v.if-passes.true)
                  v.reserve.ensures.others was.untouched;
            })
            | else-passes v ↦ rw (w.k-is, w.tables-is, v.tables-is, w.passed-is) (record {
              at = at.next;
              passed = more;
              alike = was.alike;
              ready = unreserved-more e hists k a c.loop-trigger.tables at.inside at.is (on ∙ v.if-passes.false) was.ready;
              untouched = λ number none. was.untouched number (λ j d below. none j d (omega (arith, below)));
            })
          ]
    ]

pub returns-in_err-reserve-in-Hist-clause-memory : goal.returns-in_err-reserve-in-Hist-clause-memory
returns-in_err-reserve-in-Hist-clause-memory c =
    let e = c.args.emission.now in
    let at = here c.loop-trigger.invariant.at c.loop-trigger-test.true c.trigger-item.is c.in-Hist.is in
    let on : is_passed c.in-Hist.hist.spec.filter e ≡ true = sym c.passes-passes.ensures ∙ c.if-passes.true in
    let was = c.loop-trigger.invariant in
    refused c.from_residual.result
    (memory-needed e c.args.self.now.hists c.loop-trigger.k c.in-Hist.hist c.args.tables.now c.loop-trigger.tables c.requires.agree at.inside at.is on
    was.ready was.untouched (rw c.deref.ensures at c.in_err-reserve-in-Hist.ensures.memory))

pub returns-clause-passed : goal.returns-clause-passed
returns-clause-passed c =
    let all = take_all c.loop-trigger.k c.args.self.now.hists (all-seen c.loop-trigger.invariant.at c.loop-trigger-test.false) in
    rw all at c.loop-trigger.invariant.passed
