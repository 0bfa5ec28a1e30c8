use Rattle.std.proofs.Common.{◌≡◌, ◌∙◌, List, ap, filter, refl, rules, subst, sym}
use Rattle.trace_instance.specs.Instances.{InstanceSeen}
use Rattle.trace_instance.specs.KeptHists.{is_used}
use Rattle.trace_instance.specs.EventLists.{all_hists, with_filters}
use Rattle.trace_instance.specs.private.Tables.{AreSet}
use Rattle.trace_instance.specs.declared.event.InstanceEvent.{InstanceEvent}
use Rattle.trace_instance.specs.declared.tables.Table.{Table}
use Rattle.trace_instance.proofs.EachEvent.{filtered, filtered-still, view_of}
use Rattle.trace_instance.proofs.HistChanges.{applied, in_place}
use Rattle.trace_instance.proofs.LiveSide.{cleared, emptied, taken}
use Rattle.trace_instance.proofs.instance.Instance.apply.Goals as goal

pub returns-in-SetFilters-clause-applied : goal.returns-in-SetFilters-clause-applied
returns-in-SetFilters-clause-applied c =
    let inside = c.self.inside in
    let events = inside.events.items in
    let changes = c.in-SetFilters.changes.items in
    let new : c.change_filters.new.events ≡ with_filters changes events =
    c.change_filters.ensures ∙ ap (with_filters changes) c.deref_mut.ensures.value in
    rw (
      c.in-SetFilters.is,
      in_place inside.events c.change_filters.new.events (search rules),
      new,
      filtered changes events,
      filtered-still (λ (e : InstanceEvent). e.enabled) changes events (λ e new. refl),
      filtered-still (λ (e : InstanceEvent). e.triggers.snapshot) changes events (λ e new. refl),
      filtered-still (λ (e : InstanceEvent). e.triggers.hists) changes events (λ e new. refl),
    ) (search rules)

pub returns-in_ok-set_triggers-in-Triggers-clause-applied : goal.returns-in_ok-set_triggers-in-Triggers-clause-applied
returns-in_ok-set_triggers-in-Triggers-clause-applied c =
    let now : InstanceSeen = c.args.self.now in
    let event = c.in-Triggers.event in
    let append = c.in-Triggers.append in
    let change = c.in-Triggers.change in
    let set : InstanceSeen = view_of c.self-in-Triggers.inside in
    let was : AreSet event append change now set = subst (AreSet event append change now) (sym c.self-in-Triggers.view_is) c.in_ok-set_triggers-in-Triggers.ensures.applied in
    let gone : c.keep_used.new.tables.items ≡ filter (λ (t : Table). is_used t.number set.hists) set.tables =
    c.keep_used.ensures ∙ ap (λ (events : List InstanceEvent). filter (λ (t : Table). is_used t.number (all_hists events)) set.tables) c.deref.ensures.value in
    rw c.in-Triggers.is (applied event append change now set c.keep_used.new.tables.items was gone)

pub returns-in-Clear-clause-applied : goal.returns-in-Clear-clause-applied
returns-in-Clear-clause-applied c =
    let clear = c.clear.ensures in
    rw c.in-Clear.is (cleared c.args.self.now _ c.live_mut.result.now c.clear.new.self c.self-in-Clear.view_is c.live_mut.ensures.value clear.stands clear.cpus
    clear.pages clear.page_bytes clear.offers)

pub returns-in_ok-take_snapshot-in-TakeSnapshot-clause-applied : goal.returns-in_ok-take_snapshot-in-TakeSnapshot-clause-applied
returns-in_ok-take_snapshot-in-TakeSnapshot-clause-applied c =
    let took = c.in_ok-take_snapshot-in-TakeSnapshot.ensures in
    rw c.in-TakeSnapshot.is (taken c.args.self.now _ c.take_snapshot.new.self c.self-in-TakeSnapshot.view_is took.live took.spare took.stands took.shape)

pub returns-in-ClearSpare-clause-applied : goal.returns-in-ClearSpare-clause-applied
returns-in-ClearSpare-clause-applied c =
    let clear = c.clear_spare.ensures in
    rw c.in-ClearSpare.is (emptied c.args.self.now _ c.clear_spare.new.self c.self-in-ClearSpare.view_is clear.live clear.spare clear.stands clear.shape)
