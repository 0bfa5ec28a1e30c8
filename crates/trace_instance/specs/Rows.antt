-- Which emissions an instance records, and which make a trigger of it act, by what it keeps.
use Rattle.std.specs.Prelude.{ℕ, Bool, true, false, ◌&&◌, slice_index_or, Option, Some, None}
use Rattle.trace_filter.specs.Filters.{Parsed}
use Rattle.trace_filter.specs.Values.{holds_of}
use Rattle.trace_format.specs.Operands.{Emission}
use Rattle.tracer_specification.specs.Triggers.{is_left}
use Rattle.trace_instance.specs.Instances.{InstanceSeen}
use Rattle.trace_instance.specs.declared.change.Reach.{Reach}
use Rattle.trace_instance.specs.declared.trigger.AttachedSnapshot.{AttachedSnapshot}

-- whether a kept filter holds of an emission
unfoldable pub kept_holds : Option Parsed → Emission → Bool
kept_holds None emission = true
kept_holds (Some kept) emission = holds_of kept emission

-- whether an instance records an emission of the event at this index
abbrev pub records : InstanceSeen → ℕ → Emission → Bool
records i event emission =
    i.tracing && (slice_index_or i.enabled event false && kept_holds (slice_index_or i.filters event None) emission)

-- whether a kept trigger acts on an emission of its event
abbrev pub kept_acts : Option AttachedSnapshot → Emission → Bool
kept_acts None emission = false
kept_acts (Some t) emission = is_left t.left && kept_holds t.filter emission

-- whether an emission of the event at this index makes its trigger act
abbrev pub snapshot_fires : InstanceSeen → ℕ → Emission → Bool
snapshot_fires i event emission = kept_acts (slice_index_or i.triggers event None) emission

-- what it does in an instance, but for its hist triggers
abbrev pub reach_of : InstanceSeen → ℕ → Emission → Reach
reach_of i event emission = record {
  records = records i event emission;
  snapshot_fires = snapshot_fires i event emission;
}
