use Rattle.std.proofs.Common.{◌≡◌, ◌∙◌, ap, not, rules}
use Rattle.std.proofs.lemmas.Fn.{filter_same}
use Rattle.trace_instance.specs.KeptHists.{says_same}
use Rattle.trace_instance.specs.TriggerLists.{TriggersSeen, hists_in, is_hist, snapshot_in}
use Rattle.trace_instance.specs.declared.trigger.EventTrigger.{EventTrigger}
use Rattle.trace_instance.proofs.TriggerLists.{Holds, fewer-left, kept, others, others-left, snapshot-held, without}
use Rattle.trace_instance.proofs.trigger_list.TriggerList.detach_hist.Goals as goal

holds : (c : goal.After-retain) → Holds c.retain.new.self.items (snapshot_in c.self.inside.triggers.items) (others (says_same c.args.spec.now) (hists_in c.self.inside.triggers.items))
holds c =
    let gone : c.retain.new.self.items ≡ without (says_same c.args.spec.now) c.self.inside.triggers.items =
    filter_same _ (λ (t : EventTrigger). not (is_hist (says_same c.args.spec.now) t)) _ (λ t b f called. (search rules, search rules)) _ _ c.retain.ensures.filtered in
    rw gone (others-left (says_same c.args.spec.now) c.self.inside.triggers.items c.self.invariant.1)

pub invariant_of-self : goal.invariant_of-self
invariant_of-self c = kept _ _ _ (holds c) (fewer-left (says_same c.args.spec.now) (hists_in c.self.inside.triggers.items) c.self.invariant.0)

pub returns-clause-snapshot : goal.returns-clause-snapshot
returns-clause-snapshot c = snapshot-held _ _ _ (holds c) ∙ ap (λ (t : TriggersSeen). t.snapshot) c.self.view_is ∙ c.keep.ensures.snapshot

pub returns-clause-hists : goal.returns-clause-hists
returns-clause-hists c = (holds c).those ∙ ap (others (says_same c.args.spec.now)) (ap (λ (t : TriggersSeen). t.hists) c.self.view_is ∙ c.keep.ensures.hists)
