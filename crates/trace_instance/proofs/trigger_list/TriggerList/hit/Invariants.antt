use Rattle.trace_instance.proofs.EachHist.{AreReached}
use Rattle.trace_instance.proofs.TriggerLists.{IsAt}
use Rattle.trace_instance.proofs.trigger_list.TriggerList.hit.Given as goal

abbrev pub invariant-loop-trigger : goal.invariant-loop-trigger
invariant-loop-trigger l = record {
  at : IsAt l.trigger-items l.fn.self.hists l.trigger-index l.k;
  reached : AreReached l.fn.emission l.fn.self.hists l.k l.fn.tables l.tables;
}
