use Rattle.std.proofs.Common.{◌≡◌, ◌∙◌, ◌∷◌, ◌++◌, [], if◌then◌else◌, List, ap, arith, length}
use Rattle.trace_instance.specs.TriggerLists.{TriggersSeen, hists_in, snapshot_in, with_snapshot}
use Rattle.trace_instance.specs.declared.hists.AttachedHist.{AttachedHist}
use Rattle.trace_instance.proofs.TriggerLists.{Holds, few-more, kept, one-more, snapshot-held}
use Rattle.trace_instance.proofs.trigger_list.TriggerList.attach.Goals as goal
use Rattle.trace_instance.proofs.trigger_list.TriggerList.attach.Goals.{After-push_reserved}

module _ (c : After-push_reserved) where
  snapshot : snapshot_in c.self.inside.triggers.items ≡ c.args.self.now.snapshot
  snapshot = ap (λ (t : TriggersSeen). t.snapshot) c.self.view_is ∙ c.keep.ensures.snapshot

  hists : hists_in c.self.inside.triggers.items ≡ (if c.args.append then c.args.self.now.hists else [])
  hists = ap (λ (t : TriggersSeen). t.hists) c.self.view_is ∙ c.keep.ensures.hists

  holds : Holds c.push_reserved.new.self.items (with_snapshot c.args.trigger (snapshot_in c.self.inside.triggers.items)) (hists_in c.self.inside.triggers.items ++ hists_in (c.args.trigger ∷ []))
  holds =
      rw c.push_reserved.ensures.items
      (one-more c.self.inside.triggers.items c.args.trigger (rw (snapshot, hists) c.requires.newest) (rw snapshot c.requires.only) c.self.invariant.1)

pub invariant_of-self : goal.invariant_of-self
invariant_of-self c =
    kept _ _ _ (holds c) (few-more c.self.inside.triggers.items c.args.trigger (omega (arith, ap length (hists c), c.requires.newest.few)))

pub returns-clause-snapshot : goal.returns-clause-snapshot
returns-clause-snapshot c = snapshot-held _ _ _ (holds c) ∙ ap (with_snapshot c.args.trigger) (snapshot c)

pub returns-clause-hists : goal.returns-clause-hists
returns-clause-hists c = (holds c).those ∙ ap (λ (l : List AttachedHist). l ++ hists_in (c.args.trigger ∷ [])) (hists c)
