-- What an emission that is prepared does in each instance, and its record.
use Rattle.std.specs.Prelude.{◌≡◌, ℕ, ℤ, ◌+◌, ◌<◌, Bool, true, false, List, [], length, slice_index_or, All}
use Rattle.trace_format.specs.Cells.{Cells, record_size_of}
use Rattle.trace_format.specs.Definitions.{Definition}
use Rattle.trace_format.specs.Operands.{Emission}
use Rattle.trace_record.specs.Record.{IsRecord}
use Rattle.tracer_specification.specs.Emissions.{record_bytes}
use Rattle.trace_instance.specs.Deliveries.{CanCountRow, row_of}
use Rattle.trace_instance.specs.Instances.{InstanceSeen}
use Rattle.trace_instance.specs.KeptHists.{KeysAgree}
use Rattle.trace_instance.specs.Rows.{reach_of}
use Rattle.tracer_state.specs.States.{AllReached, ArePassed, StaysUnlessWanted}
use Rattle.trace_instance.specs.declared.change.Delivery.{Delivery}
use Rattle.trace_instance.specs.declared.change.Reach.{Reach}
use Rattle.tracer_state.specs.declared.state.Named.{Named}

-- an instance has the event at this index
pub record HasEventAt (event : ℕ) (i : InstanceSeen) : Type 0 where
  pub enabled : event < length i.enabled
  pub filters : event < length i.filters
  pub triggers : event < length i.triggers
  pub hists : event < length i.hists
  pub agree : KeysAgree (slice_index_or i.hists event [])

-- what an emission of the event at this index does in each instance is this, and if none is said to record it, none does
pub record AreReached (event : ℕ) (emission : Emission) (reaches : List Reach) (recorded : Bool) (instances : List Named) : Type 0 where
  pub each : AllReached (λ reach i. reach ≡ reach_of i event emission) reaches instances
  pub none : recorded ≡ false → AllReached (λ reach i. reach.records ≡ false) reaches instances

-- if no instance's triggers are said to do anything, none fires, and the event has no hist triggers in any
abbrev pub AreQuiet : ℕ → List Reach → Bool → List Named → Type 0
AreQuiet event reaches triggered instances =
    triggered ≡ false → AllReached (λ reach i. (reach.snapshot_fires ≡ false) × (slice_index_or i.hists event [] ≡ [])) reaches instances

-- what was written ahead is the emission's record, if some instance records it
pub record IsAhead (clock event : ℕ) (row : Cells) (pid : ℤ) (recorded : Bool) (bytes : List ℕ) : Type 0 where
  pub is : recorded ≡ true → bytes ≡ record_bytes (clock + 1) pid (event + 1) row
  pub is_record : recorded ≡ true → IsRecord bytes

-- all that a delivery has of an emission of this event is made of its row: what it does in each instance, which hist triggers count it, for which
-- memory was reserved, and its record, if some instance records it
pub record IsReserved (clock : ℕ) (event : Definition) (old new : List Named) (d : Delivery) : Type 0 where
  pub recorded : Bool
  pub reached : AreReached d.event (row_of d) d.reaches recorded old
  pub idle : AllReached (StaysUnlessWanted d) d.reaches old
  pub ahead : IsAhead clock d.event d.row d.pid recorded d.record.items
  pub sized : recorded ≡ true → length d.record.items ≡ record_size_of event
  pub passed : ArePassed (row_of d) d.event d.passed old
  pub counted : All (λ (n : Named). CanCountRow (row_of d) d.event n.instance) new
