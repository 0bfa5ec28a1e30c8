-- The triggers for snapshots of an instance's events, and the emissions that triggers meet (events.rst, "Event triggers"). The newest request comes first.
use Rattle.std.specs.Prelude.{ℕ, ◌-◌, nat_lt, Bool, true, false, ◌&&◌, if◌then◌else◌, List, [], ◌∷◌, ◌++◌, length, Option, Some, None, is_some, Result, Ok}
use Rattle.std.specs.List.{list_any}
use Rattle.std.specs.Option.{option_map}
use Rattle.std.specs.Str.{bytes_eq}
use Rattle.trace_filter.specs.Filters.{Parsed}
use Rattle.trace_filter.specs.Values.{holds_of}
use Rattle.trace_format.specs.Definitions.{Definition}
use Rattle.trace_trigger.specs.TriggerTexts.{said_of}
use Rattle.trace_trigger.specs.declared.fault.TriggerFault.{TriggerFault}
use Rattle.trace_trigger.specs.declared.trigger.SnapshotTrigger.{SnapshotTrigger}
use Rattle.trace_trigger.specs.declared.trigger.TriggerText.{TriggerText}
use Rattle.trace_trigger.specs.declared.trigger.TriggerText.TheVariants.{AttachSnapshot, RemoveSnapshot}
use Rattle.trace_command.specs.Paths.{File, OfEvent}
use Rattle.trace_command.specs.Requests.{Request}
use Rattle.trace_command.specs.declared.file_name.EventFile.TheVariants as per_event
use Rattle.tracer_specification.specs.Emissions.{Emitted, emitted}
use Rattle.tracer_specification.specs.Settings.{declared_events, setting}

-- ---- triggers that are attached

-- a trigger is known by how many requests were done before the one that attached it; with it stands what that one says of it
pub record Trigger : Type 0 where
  pub number : ℕ
  pub spec : SnapshotTrigger

-- what is set for snapshots by a text that is written after so many requests: a trigger is attached, the one that is there is removed, or nothing
abbrev pub written_trigger : ℕ → Result TriggerText TriggerFault → Option (Option Trigger)
written_trigger number (Ok (AttachSnapshot spec)) = Some (Some (record { number = number; spec = spec }))
written_trigger number (Ok RemoveSnapshot) = Some None
written_trigger number said = None

-- what a write after this past sets of an event's trigger
abbrev pub sets_trigger : Definition → List Request → File → List ℕ → Option (Option Trigger)
sets_trigger event past (OfEvent name per_event.Trigger) text = if bytes_eq event.name name then written_trigger (length past) (said_of event text) else None
sets_trigger event past file text = None

-- the trigger of an event for snapshots, of which there is at most one
abbrev pub snapshot_trigger_of : Option (List ℕ) → Definition → List Request → Option Trigger
snapshot_trigger_of instance event past = setting instance (sets_trigger event) None past

-- whether some event of an instance has one
abbrev pub has_snapshot_trigger : Option (List ℕ) → List Request → Bool
has_snapshot_trigger instance past = list_any (λ event. is_some (snapshot_trigger_of instance event past)) (declared_events past)

-- ---- the emissions that a trigger meets

-- whether a trigger's filter, if it has one, holds of an emission
abbrev pub passes : Option Parsed → Emitted → Bool
passes None e = true
passes (Some filter) e = holds_of filter (record { values = e.row.values; cpu = e.cpu; pid = e.pid })

-- A trigger meets an emission of its event of which its filter holds. The event's own filter, its switch and whether the instance records do
-- not matter.
abbrev pub met_by : Definition → Option Parsed → Option Emitted → List Emitted
met_by event filter None = []
met_by event filter (Some e) = if bytes_eq event.name e.k.event.name && passes filter e then e ∷ [] else []

-- the emissions that a trigger of this number met since it was attached, the newest last
abbrev pub met : Definition → Option Parsed → ℕ → List Request → List Emitted
met event filter number [] = []
met event filter number (request ∷ past) =
    if nat_lt number (length past) then met event filter number past ++ met_by event filter (emitted past request) else []

-- how many more emissions a trigger acts on, none: on all
abbrev pub times_left : Definition → Trigger → List Request → Option ℕ
times_left event t past = option_map (λ most. most - length (met event t.spec.filter t.number past)) t.spec.count

abbrev pub is_left : Option ℕ → Bool
is_left None = true
is_left (Some times) = nat_lt 0 times

-- whether an emission of its event makes a trigger act, after this past
abbrev pub acts : List Request → Emitted → Option Trigger → Bool
acts past e None = false
acts past e (Some t) = is_left (times_left e.k.event t past) && passes t.spec.filter e
