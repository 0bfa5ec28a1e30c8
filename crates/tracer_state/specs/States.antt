-- When the state agrees with the requests that were done, and what a change does to it.
use Rattle.std.specs.Prelude.{◌≡◌, ℕ, ◌+◌, ◌<◌, ◌≤◌, Bool, true, false, List, [], ◌∷◌, ◌++◌, length, map, take, drop, slice_index_or, All, Any, IsOk, Option, Some, None, Result, Ok, Err, ⊤}
use Rattle.std.specs.List.{AllByRecursion, IsDistinct}
use Rattle.std.specs.Str.{bytes_eq}
use Rattle.trace_format.specs.Catalogs.{id_for, IsEvent, AreEvents}
use Rattle.trace_format.specs.Definitions.{Definition}
use Rattle.trace_command.specs.Refusals.{IsRefusal}
use Rattle.trace_command.specs.Requests.{Request}
use Rattle.trace_command.specs.declared.command.Config.{Config}
use Rattle.trace_command.specs.declared.refusal.Refusal.{Refusal}
use Rattle.trace_command.specs.declared.command.Reply.TheVariants.{Done}
use Rattle.tracer_specification.specs.Declarations.{IsFit, IsIndexOf}
use Rattle.tracer_specification.specs.Settings.{event_named, declares, declared_events, filter_of, instance_names, is_enabled, is_same, made, makes, now_of, removed, ticks}
use Rattle.tracer_specification.specs.Emissions.{Emitted, emitted, emitted_bytes, is_recorded}
use Rattle.tracer_specification.specs.History.{answer_with_room}
use Rattle.tracer_specification.specs.Snapshots.{is_exchanged_by}
use Rattle.tracer_specification.specs.Triggers.{snapshot_trigger_of}
use Rattle.tracer_specification.specs.HistTriggers.{hists_of}
use Rattle.trace_format.specs.Operands.{Emission}
use Rattle.trace_instance.specs.Instances.{InstanceSeen, InstanceStandsFor, passed_in, IsAlike, IsUsableInstance}
use Rattle.trace_instance.specs.Changes.{IsEffect, IsApplied, IsLawful, with_event}
use Rattle.trace_instance.specs.MemoryTaken as taken
use Rattle.tracer_state.specs.declared.change.Change.{Change}
use Rattle.tracer_state.specs.declared.change.Change.TheVariants.{Declare, Make, Remove, Instance}
use Rattle.trace_instance.specs.declared.change.InstanceChange.TheVariants.{Keep}
use Rattle.trace_instance.specs.declared.change.Delivery.{Delivery}
use Rattle.trace_instance.specs.declared.change.Reach.{Reach}
use Rattle.tracer_state.specs.declared.state.Named.{Named}
use Rattle.tracer_state.specs.declared.state.Prepared.{Prepared}
use Rattle.tracer_state.specs.declared.state.State.{State}
use Rattle.tracer_state.specs.EventPlans.{IsPlanned}
use Rattle.trace_instance.specs.Deliveries.{CanCountRow, CanFire, IsDelivered, NeedsRowMemory, IsWritable, most_requests, row_of}

-- the names of the instances, of which the top one has none
abbrev pub names_of : List Named → List (Option (List ℕ))
names_of instances = map (λ (n : Named). n.name) instances

-- each part of the state is what the requests say of it
pub record StandsFor (g : Config) (state : State) (past : List Request) : Type 0 where
  pub events : state.catalog ≡ declared_events past
  pub few_events : length (declared_events past) ≤ 64
  pub fit : AllByRecursion (IsFit g.page_bytes) (declared_events past)
  pub distinct : AreEvents [] (declared_events past)
  pub unknown : (name : Option (List ℕ)) (event : List ℕ) → event_named event past ≡ None → is_enabled name event past ≡ false
  pub unfiltered : (name : Option (List ℕ)) (event : List ℕ) → event_named event past ≡ None → filter_of name event past ≡ None
  pub untriggered : (name : Option (List ℕ)) (event : Definition) → event_named event.name past ≡ None → snapshot_trigger_of name event past ≡ None
  pub unwatched : (name : Option (List ℕ)) (event : Definition) → event_named event.name past ≡ None → hists_of name event past ≡ []
  pub clock : state.clock ≡ now_of past
  pub early : state.clock ≤ length past
  pub names : names_of state.instances.items ≡ None ∷ map (λ (name : List ℕ). Some name) (instance_names past)
  pub few_instances : length (instance_names past) ≤ 7
  pub distinct_names : IsDistinct bytes_eq (instance_names past)
  pub each : All (λ (n : Named). InstanceStandsFor g n.name past n.instance) state.instances.items
  pub planned : IsPlanned state

-- what every state of a book has, so that a command can be prepared without its past
pub record IsUsable (g : Config) (state : State) : Type 0 where
  pub early : state.clock ≤ most_requests
  pub few_events : length state.catalog ≤ 64
  pub fit : AllByRecursion (IsFit g.page_bytes) state.catalog
  pub distinct : AreEvents [] state.catalog
  pub some_instance : 1 ≤ length state.instances.items
  pub few_instances : length state.instances.items ≤ 8
  pub top : (d : Named) → (slice_index_or state.instances.items 0 d).name ≡ None
  pub distinct_names : IsDistinct is_same (names_of state.instances.items)
  pub each : All (λ (n : Named). IsUsableInstance g (length state.catalog) n.instance) state.instances.items
  pub planned : IsPlanned state

-- an emission needs memory to be counted: in some instance the table of a hist trigger needs a new entry for it
abbrev pub NeedsHitMemory : Emission → ℕ → List Named → Type 0
NeedsHitMemory emission event instances = Any (λ (n : Named). NeedsRowMemory emission event n.instance) instances

-- ---- what a change does

-- the same events, clock, instances and plans
pub record IsUnchanged (old new : State) : Type 0 where
  pub catalog : new.catalog ≡ old.catalog
  pub clock : new.clock ≡ old.clock
  pub instances : new.instances.items ≡ old.instances.items
  pub plans : new.plans.items ≡ old.plans.items

-- what an emission does where it does nothing
abbrev pub no_reach : Reach
no_reach = record { records = false; snapshot_fires = false }

-- what it does in the instance at an index
abbrev pub reach_at : List Reach → ℕ → Reach
reach_at reaches k = slice_index_or reaches k no_reach

-- this holds of what it does in each instance, and of that
abbrev pub AllReached : (Reach → InstanceSeen → Type 0) → List Reach → List Named → Type 0
AllReached R reaches instances = (k : ℕ) (n : Named) → k < length instances → R (reach_at reaches k) (slice_index_or instances k n).instance

-- an emission does nothing in an instance, unless some instance is said to want it
abbrev pub StaysUnlessWanted : Delivery → Reach → InstanceSeen → Type 0
StaysUnlessWanted d reach i = d.wanted ≡ false → (reach.records ≡ false) × (reach.snapshot_fires ≡ false) × (slice_index_or i.hists d.event [] ≡ [])

-- each instance has its name still, and this came of it
pub record EachCame (R : InstanceSeen → InstanceSeen → Type 0) (old new : List Named) : Type 0 where
  pub many : length new ≡ length old
  pub names : (k : ℕ) (d : Named) → k < length old → (slice_index_or new k d).name ≡ (slice_index_or old k d).name
  pub came : (k : ℕ) (d : Named) → k < length old → R (slice_index_or old k d).instance (slice_index_or new k d).instance

-- a state agrees with another in all but the memory of its hist triggers
pub record IsStateAlike (old new : State) : Type 0 where
  pub catalog : new.catalog ≡ old.catalog
  pub clock : new.clock ≡ old.clock
  pub instances : EachCame IsAlike old.instances.items new.instances.items
  pub plans : new.plans.items ≡ old.plans.items

-- each has its name still, and an emission reached it
pub record EachDelivered (d : Delivery) (old new : List Named) : Type 0 where
  pub many : length new ≡ length old
  pub names : (k : ℕ) (n : Named) → k < length old → (slice_index_or new k n).name ≡ (slice_index_or old k n).name
  pub came : (k : ℕ) (n : Named) → k < length old
      → IsDelivered d (reach_at d.reaches k) (slice_index_or old k n).instance (slice_index_or new k n).instance

-- this came of the instance at an index, and the others are as they were
pub record OneCame (R : InstanceSeen → InstanceSeen → Type 0) (index : ℕ) (old new : List Named) : Type 0 where
  pub many : length new ≡ length old
  pub names : (k : ℕ) (d : Named) → k < length old → (slice_index_or new k d).name ≡ (slice_index_or old k d).name
  pub came : (d : Named) → R (slice_index_or old index d).instance (slice_index_or new index d).instance
  pub others : (k : ℕ) (d : Named) → k < length old → (k ≡ index → ⊥) → slice_index_or new k d ≡ slice_index_or old k d

-- a change was made, of all but the plans
abbrev pub HasChanged : State → State → Change → Type 0
HasChanged old new (Declare event) =
    (new.catalog ≡ old.catalog ++ event ∷ []) × (new.clock ≡ old.clock)
    × EachCame (λ i j. j ≡ with_event i) old.instances.items new.instances.items
HasChanged old new (Make named) =
    (new.catalog ≡ old.catalog) × (new.clock ≡ old.clock) × (new.instances.items ≡ old.instances.items ++ named.value ∷ [])
HasChanged old new (Remove index) =
    (new.catalog ≡ old.catalog) × (new.clock ≡ old.clock)
    × (new.instances.items ≡ take index old.instances.items ++ drop (index + 1) old.instances.items)
HasChanged old new (Instance index change) =
    (new.catalog ≡ old.catalog) × (new.clock ≡ old.clock) × OneCame (IsApplied change) index old.instances.items new.instances.items

-- a change was made, and the plans of events are what the settings say after it
abbrev pub IsStep : State → State → Change → Type 0
IsStep old new change = HasChanged old new change × IsPlanned new

-- a change takes memory when it is made: for an event or an instance that is added, or in the instance that it changes
abbrev pub TakesMemory : State → Change → Type 0
TakesMemory state (Declare event) = ⊤
TakesMemory state (Make named) = ⊤
TakesMemory state (Remove index) = ⊥
TakesMemory state (Instance index change) =
    (d : Named) → taken.TakesMemory (slice_index_or state.instances.items index d).instance change

-- an emission was brought to each instance, and the clock ticked; no plan changes
abbrev pub IsEmitted : State → State → Delivery → Type 0
IsEmitted old new delivery =
    (new.catalog ≡ old.catalog) × (new.clock ≡ old.clock + 1) × EachDelivered delivery old.instances.items new.instances.items
    × (new.plans.items ≡ old.plans.items)

-- ---- when a change is what a request says

-- a request that declares nothing, makes and removes no instance and moves no clock
pub record IsPlain (request : Request) : Type 0 where
  pub declares : declares request ≡ None
  pub made : made request ≡ None
  pub removed : removed request ≡ None
  pub ticks : ticks request ≡ 0

-- an event that can be declared
pub record IsFresh (g : Config) (past : List Request) (event : Definition) : Type 0 where
  pub unknown : event_named event.name past ≡ None
  pub few : length (declared_events past) < 64
  pub fit : IsFit g.page_bytes event
  pub is_event : IsEvent (declared_events past) event

-- the request declares this event and changes nothing else
pub record IsDeclared (g : Config) (past : List Request) (request : Request) (event : Definition) : Type 0 where
  pub declares : declares request ≡ Some event
  pub made : made request ≡ None
  pub removed : removed request ≡ None
  pub ticks : ticks request ≡ 0
  pub fresh : IsFresh g past event
  pub effect : (name : Option (List ℕ)) → IsEffect g name past request Keep

-- the request makes this instance
pub record IsMade (g : Config) (past : List Request) (request : Request) (named : Named) : Type 0 where
  pub declares : declares request ≡ None
  pub name : List ℕ
  pub called : named.name ≡ Some name
  pub made : made request ≡ Some name
  pub removed : removed request ≡ None
  pub ticks : ticks request ≡ 0
  pub few : length (instance_names past) < 7
  pub new : All (λ other. bytes_eq other name ≡ false) (instance_names past)
  pub stands : InstanceStandsFor g (Some name) (request ∷ past) named.instance
  pub effect : (other : Option (List ℕ)) → makes other request ≡ false → IsEffect g other past request Keep

-- the request removes the instance at this index
pub record IsRemoved (g : Config) (past : List Request) (request : Request) (index : ℕ) : Type 0 where
  pub declares : declares request ≡ None
  pub name : List ℕ
  pub made : made request ≡ None
  pub removed : removed request ≡ Some name
  pub ticks : ticks request ≡ 0
  pub inside : index < 1 + length (instance_names past)
  pub there : slice_index_or (None ∷ map (λ (n : List ℕ). Some n) (instance_names past)) index None ≡ Some name
  pub effect : (other : Option (List ℕ)) → IsEffect g other past request Keep

-- the request changes the instance of this name so, and no other
pub record IsChanged (g : Config) (past : List Request) (request : Request) (name : Option (List ℕ)) : Type 0 where
  pub plain : IsPlain request
  pub others : (other : Option (List ℕ)) → is_same other name ≡ false → IsEffect g other past request Keep

-- the request emits this row: it is written in each instance that records it, and exchanges the sides of each whose trigger it makes act; and what
-- was prepared to be written there is its record
pub record IsEmission (g : Config) (past : List Request) (request : Request) (instances : List Named) (d : Delivery) : Type 0 where
  pub declares : declares request ≡ None
  pub made : made request ≡ None
  pub removed : removed request ≡ None
  pub ticks : ticks request ≡ 1
  pub e : Emitted
  pub emitted : emitted past request ≡ Some e
  pub index : IsIndexOf (declared_events past) e.k.event.name d.event e.k.event
  pub row : d.row.values ≡ e.row.values
  pub cpu : d.cpu ≡ e.cpu
  pub pid : d.pid ≡ e.pid
  pub records : (k : ℕ) (n : Named) → k < length instances
      → (reach_at d.reaches k).records ≡ is_recorded (slice_index_or instances k n).name past e
  pub snapshot_fires : (k : ℕ) (n : Named) → k < length instances
      → (reach_at d.reaches k).snapshot_fires ≡ is_exchanged_by (slice_index_or instances k n).name past (Some e)
  pub bytes : AllReached (λ reach i. reach.records ≡ true → d.record.items ≡ emitted_bytes e) d.reaches instances

-- a change says of a request all that the definitions say of it, after this past, in this state
abbrev pub IsChangeOf : Config → State → List Request → Request → Change → Type 0
IsChangeOf g state past request (Declare event) = IsDeclared g past request event
IsChangeOf g state past request (Make named) = IsMade g past request named.value
IsChangeOf g state past request (Remove index) = IsRemoved g past request index
IsChangeOf g state past request (Instance index change) =
    (d : Named) → IsChanged g past request (slice_index_or state.instances.items index d).name
    × IsEffect g (slice_index_or state.instances.items index d).name past request change

-- of each instance, the filters of which hist triggers of the event an emission passes
abbrev pub ArePassed : Emission → ℕ → List (List Bool) → List Named → Type 0
ArePassed emission event passed instances =
    (k : ℕ) (n : Named) → k < length instances → slice_index_or passed k [] ≡ passed_in emission event (slice_index_or instances k n).instance

-- a change can be made, and what was grown for it is there
abbrev pub IsReady : Config → State → Change → Type 0
IsReady g state (Declare event) = (length state.catalog < 64) × IsOk (id_for state.catalog event g.page_bytes)
IsReady g state (Make named) = ⊤
IsReady g state (Remove index) = index < length state.instances.items
IsReady g state (Instance index change) = (index < length state.instances.items)
    × ((d : Named) → IsLawful (slice_index_or state.instances.items index d).instance change)

-- an emission can be brought to each instance, and what was grown for it is there
abbrev pub CanEmit : State → Delivery → Type 0
CanEmit state delivery =
    (delivery.event < length state.catalog) × AllReached (IsWritable delivery) delivery.reaches state.instances.items
    × AllReached CanFire delivery.reaches state.instances.items
    × AllReached (StaysUnlessWanted delivery) delivery.reaches state.instances.items
    × ArePassed (row_of delivery) delivery.event delivery.passed state.instances.items
    × All (λ (n : Named). CanCountRow (row_of delivery) delivery.event n.instance) state.instances.items

-- what was prepared for a request, or why it is refused
abbrev pub IsPrepared : Config → List Request → Request → State → Result Prepared Refusal → Type 0
IsPrepared g past request state (Ok prepared) =
    (answer_with_room g past request ≡ Ok prepared.reply) × IsChangeOf g state past request prepared.change × IsReady g state prepared.change
IsPrepared g past request state (Err refusal) = IsRefusal refusal (answer_with_room g past request)

-- an emission was prepared for a request
abbrev pub IsPreparedEmission : Config → List Request → Request → State → Delivery → Type 0
IsPreparedEmission g past request state delivery =
    (answer_with_room g past request ≡ Ok Done) × IsEmission g past request state.instances.items delivery × CanEmit state delivery
