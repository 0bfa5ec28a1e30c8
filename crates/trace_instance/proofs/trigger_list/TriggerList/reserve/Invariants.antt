use Rattle.std.proofs.Common.{◌≡◌, ℕ, ◌<◌, slice_index_or, take}
use Rattle.trace_instance.specs.KeptHists.{CanCount, kept_at, passed, table_numbered}
use Rattle.trace_instance.specs.declared.hists.AttachedHist.{AttachedHist}
use Rattle.trace_instance.proofs.EachHist.{IsUntouched}
use Rattle.trace_instance.proofs.TriggerLists.{IsAt}
use Rattle.trace_instance.proofs.trigger_list.TriggerList.reserve.Given as goal

abbrev pub invariant-loop-trigger : goal.invariant-loop-trigger
invariant-loop-trigger l = record {
  at : IsAt l.trigger-items l.fn.self.hists l.trigger-index l.k;
  passed : l.passed ≡ passed l.fn.emission (take l.k l.fn.self.hists);
  alike : (number : ℕ) → kept_at number l.tables ≡ kept_at number l.fn.tables;
  ready : (j : ℕ) (d : AttachedHist) → j < l.k
      → CanCount l.fn.emission l.tables (slice_index_or l.fn.self.hists j d);
  untouched : (number : ℕ) → IsUntouched l.fn.emission l.fn.self.hists l.k number
      → table_numbered number l.tables ≡ table_numbered number l.fn.tables;
}
