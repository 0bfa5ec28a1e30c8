use Rattle.std.proofs.Common.{◌≡◌, ◌∙◌, None, ap, not, rules}
use Rattle.std.proofs.lemmas.Fn.{filter_same}
use Rattle.trace_instance.specs.TriggerLists.{TriggersSeen, hists_in, is_snapshot}
use Rattle.trace_instance.specs.declared.trigger.EventTrigger.{EventTrigger}
use Rattle.trace_instance.proofs.TriggerLists.{Holds, hists-left, kept, snapshot-held, without_snapshot}
use Rattle.trace_instance.proofs.trigger_list.TriggerList.detach_snapshot.Goals as goal

holds : (c : goal.After-retain) → Holds c.retain.new.self.items None (hists_in c.self.inside.triggers.items)
holds c =
    let gone : c.retain.new.self.items ≡ without_snapshot c.self.inside.triggers.items =
    filter_same _ (λ (t : EventTrigger). not (is_snapshot t)) _ (λ t b f called. (search rules, search rules)) _ _ c.retain.ensures.filtered in
    rw gone (hists-left c.self.inside.triggers.items)

pub invariant_of-self : goal.invariant_of-self
invariant_of-self c = kept c.retain.new.self.items None (hists_in c.self.inside.triggers.items) (holds c) c.self.invariant.0

pub returns-clause-snapshot : goal.returns-clause-snapshot
returns-clause-snapshot c = snapshot-held c.retain.new.self.items None (hists_in c.self.inside.triggers.items) (holds c)

pub returns-clause-hists : goal.returns-clause-hists
returns-clause-hists c = (holds c).those ∙ ap (λ (t : TriggersSeen). t.hists) c.self.view_is ∙ c.keep.ensures.hists
