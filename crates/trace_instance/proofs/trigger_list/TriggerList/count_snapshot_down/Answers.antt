use Rattle.std.proofs.Common.{◌≡◌, ◌≤◌, ◌∙◌, ap, append-nil, arith, length, map, rules}
use Rattle.std.proofs.lemmas.List.{drop_all, take_all}
use Rattle.std.proofs.lemmas.List.Edits.{map_over_more}
use Rattle.trace_instance.specs.Deliveries.{counted_down}
use Rattle.trace_instance.specs.TriggerLists.{TriggersSeen, counted, hists_in, snapshot_in}
use Rattle.trace_instance.proofs.TriggerLists.{Holds, counted-once, kept, snapshot-held}
use Rattle.trace_instance.proofs.trigger_list.TriggerList.count_snapshot_down.Goals as goal
use Rattle.trace_instance.proofs.trigger_list.TriggerList.count_snapshot_down.Goals.{After-loop-i}

pub loop-i-preserved : goal.loop-i-preserved
loop-i-preserved c =
    rw c.count_snapshot_down.ensures (map_over_more counted c.self.inside.triggers.items c.loop-i.self-inside.triggers.items c.loop-i.i c.index_mut.result.now
    (search rules) c.loop-i.invariant (search rules))

holds : (c : After-loop-i) → Holds c.loop-i.self-inside.triggers.items (counted_down (snapshot_in c.self.inside.triggers.items)) (hists_in c.self.inside.triggers.items)
holds c =
    let list = c.self.inside.triggers.items in
    let i = c.loop-i.i in
    let end : length list ≤ i = omega (arith, c.loop-i-test.false, c.len-i-end.ensures, c.self.inside.triggers.ok.0) in
    let all : c.loop-i.self-inside.triggers.items ≡ map counted list =
    c.loop-i.invariant ∙ (rw (take_all i list end, drop_all i list end) (append-nil (map counted list))) in
    rw all (counted-once list c.self.invariant.1)

pub invariant_of-self : goal.invariant_of-self
invariant_of-self c = kept _ _ _ (holds c) c.self.invariant.0

pub returns-clause-snapshot : goal.returns-clause-snapshot
returns-clause-snapshot c = snapshot-held _ _ _ (holds c) ∙ ap (λ (t : TriggersSeen). counted_down t.snapshot) c.self.view_is

pub returns-clause-hists : goal.returns-clause-hists
returns-clause-hists c = (holds c).those ∙ ap (λ (t : TriggersSeen). t.hists) c.self.view_is
