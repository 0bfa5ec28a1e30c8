-- When an emission can be delivered to an instance, and what it does there.
use Rattle.std.specs.Prelude.{◌≡◌, ℕ, ◌+◌, ◌-◌, ◌<◌, ◌≤◌, Bool, true, if◌then◌else◌, List, [], ◌∷◌, length, slice_index_or, slice_set, All, is_some, Option, None}
use Rattle.std.specs.List.{AllByRecursion, Any}
use Rattle.std.specs.Option.{option_map}
use Rattle.trace_record.specs.Record.{IsRecord}
use Rattle.page_ring.specs.Events as ring
use Rattle.page_ring.specs.Shown.{most_offered}
use Rattle.trace_buffer.specs.Buffers as buffers
use Rattle.trace_buffer.specs.Families.{with_events}
use Rattle.trace_snapshot.specs.Sides as snapshot
use Rattle.trace_snapshot.specs.Sides.{SideFamilies, exchanged}
use Rattle.trace_command.specs.declared.command.Config.{Config}
use Rattle.trace_format.specs.Operands.{Emission}
use Rattle.trace_instance.specs.KeptHists.{AreHit, CanCount, HasRoomToCount, NeedsMemory}
use Rattle.trace_instance.specs.declared.hists.AttachedHist.{AttachedHist}
use Rattle.trace_instance.specs.Instances.{InstanceSeen, IsShaped, WereOffered}
use Rattle.trace_instance.specs.declared.change.Delivery.{Delivery}
use Rattle.trace_instance.specs.declared.change.Reach.{Reach}
use Rattle.trace_instance.specs.declared.trigger.AttachedSnapshot.{AttachedSnapshot}

-- ---- what it does there

-- a trigger that acted acts once less
abbrev pub acted_once : AttachedSnapshot → AttachedSnapshot
acted_once t = record { number = t.number; left = option_map (λ times. times - 1) t.left; filter = t.filter }

abbrev pub counted_down : Option AttachedSnapshot → Option AttachedSnapshot
counted_down trigger = option_map acted_once trigger

-- the live side's rings after an emission: with its record, if it is written here
abbrev pub recorded_in : Bool → Bool → ℕ → List ℕ → List (List ring.Event) → List (List ring.Event)
recorded_in records overwrite cpu bytes family = if records then with_events cpu (ring.Put bytes overwrite ∷ []) family else family

-- the record is written, if it is written here
pub record IsWritten (d : Delivery) (reach : Reach) (old new : InstanceSeen) : Type 0 where
  pub rest : new ≡ record old { sides = new.sides }
  pub sides : (families : SideFamilies) → snapshot.StandsFor old.sides families → snapshot.StandsFor new.sides
      (record { live = recorded_in reach.records old.overwrite d.cpu d.record.items families.live; spare = families.spare })
  pub spare : new.sides.spare ≡ old.sides.spare
  pub shaped : (g : Config) → IsShaped g old.sides → IsShaped g new.sides
  pub offered : (most : ℕ) → WereOffered most old.sides → WereOffered (most + 1) new.sides

-- the sides are exchanged, and the event's trigger has acted
pub record IsExchanged (event : ℕ) (old new : InstanceSeen) : Type 0 where
  pub rest : new ≡ record old { sides = new.sides; triggers = slice_set old.triggers event (counted_down (slice_index_or old.triggers event None)) }
  pub sides : (families : SideFamilies) → snapshot.StandsFor old.sides families → snapshot.StandsFor new.sides (exchanged families)
  pub shaped : (g : Config) → IsShaped g old.sides → IsShaped g new.sides
  pub offered : (most : ℕ) → WereOffered most old.sides → WereOffered most new.sides

-- both sides after it: the record is written before the sides are exchanged
abbrev pub delivered_to : InstanceSeen → Delivery → Reach → SideFamilies → SideFamilies
delivered_to i d reach f =
    let written : SideFamilies = record { live = recorded_in reach.records i.overwrite d.cpu d.record.items f.live; spare = f.spare } in
    if reach.snapshot_fires then exchanged written else written

-- the row of an emission, as a histogram takes it
abbrev pub row_of : Delivery → Emission
row_of d = record { values = d.row.values; cpu = d.cpu; pid = d.pid }

-- the row of an emission was offered to the hist triggers of its event, which counted it in their tables
pub record IsOffered (d : Delivery) (old new : InstanceSeen) : Type 0 where
  pub rest : new ≡ record old { tables = new.tables }
  pub tables : AreHit (row_of d) (slice_index_or old.hists d.event []) old.tables new.tables

-- an emission reached an instance, where it does this: its record is written, or not; then the event's hist triggers are offered its row; and then
-- the event's trigger for snapshots acts, or not
pub record IsDelivered (d : Delivery) (reach : Reach) (old new : InstanceSeen) : Type 0 where
  pub enabled : new.enabled ≡ old.enabled
  pub filters : new.filters ≡ old.filters
  pub triggers : new.triggers
      ≡ (if reach.snapshot_fires then slice_set old.triggers d.event (counted_down (slice_index_or old.triggers d.event None)) else old.triggers)
  pub hists : new.hists ≡ old.hists
  pub tables : AreHit (row_of d) (slice_index_or old.hists d.event []) old.tables new.tables
  pub overwrite : new.overwrite ≡ old.overwrite
  pub tracing : new.tracing ≡ old.tracing
  pub sides : (families : SideFamilies) → snapshot.StandsFor old.sides families → snapshot.StandsFor new.sides (delivered_to old d reach families)
  pub shaped : (g : Config) → IsShaped g old.sides → IsShaped g new.sides
  pub offered : (most : ℕ) → WereOffered most old.sides → WereOffered (most + 1) new.sides

-- ---- when it can be delivered

-- how many requests an instance can stand for: each offers its rings at most one record, and its histograms at most four rows
abbrev pub most_requests : ℕ
most_requests = most_offered

-- each ring of the live side was offered few records
abbrev pub HasFew : InstanceSeen → Type 0
HasFew i = AllByRecursion (λ n. n < most_offered) (buffers.offers i.sides.live)

-- its record can be written here, if it is to be
abbrev pub IsWritable : Delivery → Reach → InstanceSeen → Type 0
IsWritable d reach i = reach.records ≡ true
    → IsRecord d.record.items × (length d.record.items ≤ i.sides.live.page_bytes) × (d.cpu < buffers.cpus i.sides.live)

-- the hist triggers of the event at an index have the memory to count an emission
abbrev pub CanCountRow : Emission → ℕ → InstanceSeen → Type 0
CanCountRow emission event i = All (CanCount emission i.tables) (slice_index_or i.hists event [])

-- some of them needs memory to count an emission
abbrev pub NeedsRowMemory : Emission → ℕ → InstanceSeen → Type 0
NeedsRowMemory emission event i = Any (NeedsMemory emission i.tables) (slice_index_or i.hists event [])

-- each histogram counted few rows
abbrev pub HasFewRows : InstanceSeen → Type 0
HasFewRows i = All (λ (attached : List AttachedHist). All (HasRoomToCount i.tables) attached) i.hists

-- an instance whose sides are to be exchanged has a spare
abbrev pub CanFire : Reach → InstanceSeen → Type 0
CanFire reach i = reach.snapshot_fires ≡ true → is_some i.sides.spare ≡ true
