-- What a change of an event's triggers and an emission make of the triggers of an instance and of their tables.
use Rattle.std.proofs.Common.{◌≡◌, ℕ, ◌<◌, ◌==◌, Bool, true, false, if◌then◌else◌, List, [], length, filter, get_or, set, take, drop, ◌++◌, Option, Some, None, option_map, refl, sym, ap, ◌∙◌, subst}
use Rattle.std.proofs.lemmas.List.{map-set, take_at}
use Rattle.std.specs.Global.{Vec}
use Rattle.std.specs.Vec.{vec_len}
use Rattle.trace_buffer.specs.Buffers as buffers
use Rattle.trace_command.specs.declared.command.Config.{Config}
use Rattle.trace_trigger.specs.declared.spec.Action.{Action}
use Rattle.trace_hist.specs.Hists.{Seen}
use Rattle.trace_snapshot.specs.Sides.{HasShapeOf, IsSpareOf, SideFamilies, SidesSeen, StandsFor, with_spare}
use Rattle.trace_instance.specs.Changes.{IsApplied, hists_changed, sides_changed, table_changed, trigger_changed, triggers_after}
use Rattle.trace_instance.specs.Instances.{InstanceSeen, IsAlike, IsShaped, WereOffered}
use Rattle.trace_instance.specs.KeptHists.{AreHit, KeptTable, asked, asked_if, is_used, kept_at, kept_table}
use Rattle.trace_instance.specs.Deliveries.{IsOffered, row_of}
use Rattle.trace_instance.specs.EventLists.{all_hists, all_triggers}
use Rattle.trace_instance.specs.private.Tables.{AreSet}
use Rattle.trace_instance.specs.TriggerLists.{TriggersSeen}
use Rattle.trace_instance.specs.declared.change.Delivery.{Delivery}
use Rattle.trace_instance.specs.declared.change.InstanceChange.TheVariants.{Triggers}
use Rattle.trace_instance.specs.declared.change.TriggerChange.{TriggerChange}
use Rattle.trace_instance.specs.declared.change.TriggerChange.TheVariants.{AttachSnapshot, DetachSnapshot}
use Rattle.trace_instance.specs.declared.event.InstanceEvent.{InstanceEvent}
use Rattle.trace_instance.specs.declared.hists.AttachedHist.{AttachedHist}
use Rattle.trace_instance.specs.declared.instance.Instance.TheInside.{Inside}
use Rattle.trace_instance.specs.declared.tables.Table.{Table}
use Rattle.trace_instance.specs.declared.trigger.AttachedSnapshot.{AttachedSnapshot}
use Rattle.trace_instance.proofs.EachEvent.{hists_in, read, seen, still, view_of}
use Rattle.trace_instance.proofs.LiveSide.{armed_offered, armed_shaped}
use Rattle.trace_instance.proofs.Lookups.{kept-still, none-kept}

-- ---- tables

-- nothing is asked
pub unasked : (found : Option KeptTable) → found ≡ option_map (asked_if None) found
unasked None = refl
unasked (Some k) = refl

-- the table of a number is asked, and no other
pub asked-one : (table number : ℕ) (action : Action) (found : Option KeptTable)
    → (let o : Option KeptTable = if table == number then option_map (asked action) found else found in o)
    ≡ option_map (asked_if (if table == number then Some action else None)) found
asked-one table number action found = by (table == number) found
  where
    by : (same : Bool) (f : Option KeptTable)
        → (let o : Option KeptTable = if same then option_map (asked action) f else f in o) ≡ option_map (asked_if (if same then Some action else None)) f
    by true None = refl
    by true (Some k) = refl
    by false None = refl
    by false (Some k) = refl

-- a table is put before the others
pub made-one : (attached : AttachedHist) (hist : Seen) (number : ℕ) (found : Option Seen)
    → option_map kept_table (if attached.table == number then Some hist else found)
    ≡ (if attached.table == number then Some (kept_table hist) else option_map kept_table found)
made-one attached hist number found = by (attached.table == number)
  where
    by : (same : Bool) → option_map kept_table (if same then Some hist else found)
        ≡ (let o : Option KeptTable = if same then Some (kept_table hist) else option_map kept_table found in o)
    by true = refl
    by false = refl

-- ---- a change of an event's triggers

-- what it makes of the sides
pub record AreSidesOf (at : ℕ) (append : Bool) (change : TriggerChange) (old new : SidesSeen) : Type 0 where
  pub stands : (f : SideFamilies) → StandsFor old f
      → StandsFor new (sides_changed old.cpus old.live.pages old.live.page_bytes (Triggers at append change) f)
  pub shaped : (g : Config) → IsShaped g old → IsShaped g new
  pub offered : (most : ℕ) → WereOffered most old → WereOffered most new

pub same_sides : (at : ℕ) (append : Bool) (change : TriggerChange) (s : SidesSeen)
    → ((f : SideFamilies) → sides_changed s.cpus s.live.pages s.live.page_bytes (Triggers at append change) f ≡ f) → AreSidesOf at append change s s
same_sides at append change s same = record {
  stands = λ f is. subst (StandsFor s) (sym (same f)) is;
  shaped = λ g is. is;
  offered = λ most all. all;
}

pub armed_sides : (at : ℕ) (append : Bool) (trigger : AttachedSnapshot) (old new : SidesSeen) → new.live ≡ old.live
    → ((side : buffers.Seen) → new.spare ≡ Some side → IsSpareOf old old.spare side)
    → ((f : SideFamilies) → StandsFor old f → StandsFor new (with_spare old.cpus f)) → HasShapeOf old new → AreSidesOf at append (AttachSnapshot trigger) old new
armed_sides at append trigger old new live spare stands shape = record {
  stands = stands;
  shaped = λ g is. armed_shaped g old new live spare shape is;
  offered = λ most all. armed_offered most old new live spare all;
}

-- what it makes of the event's triggers
pub record AreTriggersOf (append : Bool) (change : TriggerChange) (old new : TriggersSeen) : Type 0 where
  pub snapshot : new.snapshot ≡ trigger_changed change old.snapshot
  pub hists : new.hists ≡ hists_changed change (if append then old.hists else [])

triggers-changed : (events : List InstanceEvent) (at : ℕ) (append : Bool) (change : TriggerChange) (one : InstanceEvent) (new : TriggersSeen)
    → one ≡ get_or events at one → new.snapshot ≡ trigger_changed change one.triggers.snapshot
    → all_triggers (set events at (record one { triggers = new })) ≡ triggers_after (Triggers at append change) (all_triggers events)
triggers-changed events at append change one new is = by change
  where
    snapshots : (o : Option AttachedSnapshot) → new.snapshot ≡ o → all_triggers (set events at (record one { triggers = new })) ≡ set (all_triggers events) at o
    snapshots o same = map-set (λ (e : InstanceEvent). e.triggers.snapshot) events at (record one { triggers = new }) ∙ ap (set (all_triggers events) at) same

    by : (c : TriggerChange) → new.snapshot ≡ trigger_changed c one.triggers.snapshot
        → all_triggers (set events at (record one { triggers = new })) ≡ triggers_after (Triggers at append c) (all_triggers events)
    by (AttachSnapshot trigger) same = snapshots (Some trigger) same
    by DetachSnapshot same = snapshots None same
    by c same = still (λ (e : InstanceEvent). e.triggers.snapshot) events at one (record one { triggers = new }) is same

-- its hist triggers that a text leaves
left-now : (append : Bool) (at : ℕ) (value : InstanceSeen) (old : Inside) (one : InstanceEvent) → view_of old ≡ value → at < length value.hists
    → one ≡ get_or old.events.items at one → (if append then one.triggers.hists else []) ≡ (if append then get_or (all_hists old.events.items) at [] else [])
left-now true at value old one view within is = hists_in value old at one view within is
left-now false at value old one view within is = refl

pub are_set : (at : ℕ) (append : Bool) (change : TriggerChange) (value : InstanceSeen) (old : Inside) (one : InstanceEvent) (new : TriggersSeen)
    (tables : List Table) (sides : SidesSeen) → view_of old ≡ value → at < length value.hists → one ≡ get_or old.events.items at one
    → AreTriggersOf append change one.triggers new
    → ((number : ℕ) → kept_at number tables ≡ table_changed change number (kept_at number old.tables.items))
    → AreSidesOf at append change old.sides sides
    → AreSet at append change value (seen (set old.events.items at (record one { triggers = new })) tables old.overwrite old.tracing sides)
are_set at append change value old one new tables sides view within is changed lookups both =
    let events = old.events.items in
    let one_now = record one { triggers = new } in
    subst (λ (v : InstanceSeen). AreSet at append change v (seen (set events at one_now) tables old.overwrite old.tracing sides)) view (record {
      enabled = still (λ (e : InstanceEvent). e.enabled) events at one one_now is refl;
      filters = still (λ (e : InstanceEvent). e.filter) events at one one_now is refl;
      triggers = triggers-changed events at append change one new is changed.snapshot;
      hists = map-set (λ (e : InstanceEvent). e.triggers.hists) events at one_now
          ∙ ap (set (all_hists events) at) changed.hists
          ∙ ap (λ (l : List AttachedHist). set (all_hists events) at (hists_changed change l)) (left-now append at value old one view within is);
      tables = lookups;
      overwrite = refl;
      tracing = refl;
      sides = both.stands;
      shaped = both.shaped;
      offered = both.offered;
    })

-- nor does it change anything that there is memory for more
pub memory-more : (at : ℕ) (value : InstanceSeen) (old : Inside) (one : InstanceEvent) (new : TriggersSeen) (sides : SidesSeen) → view_of old ≡ value
    → one ≡ get_or old.events.items at one → new.snapshot ≡ one.triggers.snapshot → new.hists ≡ one.triggers.hists → sides ≡ old.sides
    → seen (set old.events.items at (record one { triggers = new })) old.tables.items old.overwrite old.tracing sides ≡ value
memory-more at value old one new sides view is snapshot hists same =
    let events = old.events.items in
    let one_now = record one { triggers = new } in
    (λ i. record {
      enabled = still (λ (e : InstanceEvent). e.enabled) events at one one_now is refl i;
      filters = still (λ (e : InstanceEvent). e.filter) events at one one_now is refl i;
      triggers = still (λ (e : InstanceEvent). e.triggers.snapshot) events at one one_now is snapshot i;
      hists = still (λ (e : InstanceEvent). e.triggers.hists) events at one one_now is hists i;
      tables = old.tables.items;
      overwrite = old.overwrite;
      tracing = old.tracing;
      sides = same i;
    })
    ∙ view

-- and then tables of no trigger go
pub applied : (event : ℕ) (append : Bool) (change : TriggerChange) (value set : InstanceSeen) (tables : List Table) → AreSet event append change value set
    → tables ≡ filter (λ (t : Table). is_used t.number set.hists) set.tables
    → IsApplied (Triggers event append change) value (record set { tables = tables })
applied event append change value set tables is gone = record {
  enabled = is.enabled;
  filters = is.filters;
  triggers = is.triggers;
  hists = is.hists;
  tables = λ n used. ap (kept_at n) gone ∙ kept-still n set.hists set.tables used ∙ is.tables n;
  unused = λ n off. ap (kept_at n) gone ∙ none-kept n set.hists set.tables off;
  overwrite = is.overwrite;
  tracing = is.tracing;
  sides = is.sides;
  shaped = is.shaped;
  offered = is.offered;
}

-- ---- an emission

-- a list that is changed in place
pub in_place : {A : Type 0} (old : Vec A) (new : List A) → length new ≡ vec_len old → take (vec_len old) (new ++ drop (length new) old.items) ≡ new
in_place old new many = take_at new _ _ many

-- those of its event have counted it
pub offered_one : (d : Delivery) (value old : InstanceSeen) (read : List AttachedHist) (tables : List Table) → old ≡ value
    → read ≡ get_or old.hists d.event [] → AreHit (row_of d) read old.tables tables → IsOffered d value (record old { tables = tables })
offered_one d value old read tables view is hit =
    subst (λ (v : InstanceSeen). IsOffered d v (record old { tables = tables })) view
    (record { rest = refl; tables = subst (λ (l : List AttachedHist). AreHit (row_of d) l old.tables tables) is hit })

-- tables have more memory
pub alike_one : (value old : InstanceSeen) (tables : List Table) → old ≡ value → ((number : ℕ) → kept_at number tables ≡ kept_at number old.tables)
    → IsAlike value (record old { tables = tables })
alike_one value old tables view same = subst (λ (v : InstanceSeen). IsAlike v (record old { tables = tables })) view (record { rest = refl; tables = same })
