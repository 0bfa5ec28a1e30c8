use Rattle.std.proofs.Common.{◌≡◌, ◌∙◌, [], ap, arith, rules, subst, true, not}
use Rattle.std.proofs.lemmas.Fn.{filter_same}
use Rattle.trace_instance.specs.TriggerLists.{TriggersSeen, hists_in, is_hist, snapshot_in}
use Rattle.trace_instance.specs.declared.trigger.EventTrigger.{EventTrigger}
use Rattle.trace_instance.proofs.TriggerLists.{Holds, kept, none-left, others-left, snapshot-held, snapshot-only, without}
use Rattle.trace_instance.proofs.trigger_list.TriggerList.keep.Goals as goal

holds : (c : goal.After-retain) → Holds c.retain.new.self.items (snapshot_in c.self.inside.triggers.items) []
holds c =
    let list = c.self.inside.triggers.items in
    let gone : c.retain.new.self.items ≡ without (λ a. true) list =
    filter_same _ (λ (t : EventTrigger). not (is_hist (λ a. true) t)) _ (λ t b f called. (search (rules, snapshot-only), search rules)) _ _ c.retain.ensures.filtered in
    rw gone (subst (Holds (without (λ a. true) list) (snapshot_in list)) (none-left (hists_in list)) (others-left (λ a. true) list c.self.invariant.1))

pub invariant_of-self : goal.invariant_of-self
invariant_of-self c = kept c.retain.new.self.items (snapshot_in c.self.inside.triggers.items) [] (holds c) (omega arith)

pub returns-then-not-append-clause-snapshot : goal.returns-then-not-append-clause-snapshot
returns-then-not-append-clause-snapshot c =
    snapshot-held c.retain.new.self.items (snapshot_in c.self.inside.triggers.items) [] (holds c) ∙ ap (λ (t : TriggersSeen). t.snapshot) c.self.view_is

pub returns-then-not-append-clause-hists : goal.returns-then-not-append-clause-hists
returns-then-not-append-clause-hists c = rw c.if-not-append.true (holds c).those
