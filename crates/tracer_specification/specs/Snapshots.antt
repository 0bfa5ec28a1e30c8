-- Snapshots (ftrace.rst, "Snapshot"; events.rst, "Event triggers", "snapshot"): an instance has two sides, 0 and 1, each with a ring for each
-- CPU. A snapshot exchanges which of them is live. The newest request comes first.
use Rattle.std.specs.Prelude.{ℕ, ◌+◌, ◌%◌, ◌==◌, Bool, true, false, ◌&&◌, if◌then◌else◌, List, [], ◌∷◌, Option, Some, None, Result, Ok}
use Rattle.std.specs.Option.{option_map}
use Rattle.trace_lex.specs.Decimals.{written_number}
use Rattle.trace_trigger.specs.TriggerTexts.{said_of}
use Rattle.trace_trigger.specs.declared.fault.TriggerFault.{TriggerFault}
use Rattle.trace_trigger.specs.declared.trigger.TriggerText.{TriggerText}
use Rattle.trace_trigger.specs.declared.trigger.TriggerText.TheVariants.{AttachSnapshot}
use Rattle.trace_command.specs.Paths.{File, OfInstance, OfEvent}
use Rattle.trace_command.specs.Requests.{Request, WriteFile}
use Rattle.trace_command.specs.declared.file_name.EventFile.TheVariants as per_event
use Rattle.trace_command.specs.declared.file_name.TopFile.TheVariants as top
use Rattle.tracer_specification.specs.Emissions.{Emitted, emitted}
use Rattle.tracer_specification.specs.Settings.{NumberedEvent, event_named, is_same, makes, setting}
use Rattle.tracer_specification.specs.Triggers.{acts, snapshot_trigger_of}

-- ---- numbers that are written to `snapshot`

-- 0 frees the spare, 1 takes a snapshot, and another number empties the spare
pub data SnapshotWrite : Type 0 where
  Frees : SnapshotWrite
  Takes : SnapshotWrite
  Empties : SnapshotWrite

abbrev pub snapshot_write : ℕ → SnapshotWrite
snapshot_write n = if n == 0 then Frees else (if n == 1 then Takes else Empties)

unfoldable pub written_snapshot : List ℕ → Option SnapshotWrite
written_snapshot text = option_map snapshot_write (written_number text)

-- ---- exchanges

abbrev pub takes_snapshot : Option SnapshotWrite → Bool
takes_snapshot (Some Takes) = true
takes_snapshot _ = false

-- an emission exchanges the sides where it makes its event's trigger for snapshots act
abbrev pub is_exchanged_by : Option (List ℕ) → List Request → Option Emitted → Bool
is_exchanged_by instance past None = false
is_exchanged_by instance past (Some e) = acts past e (snapshot_trigger_of instance e.k.event past)

-- whether a request after this past exchanges the sides of an instance
abbrev pub exchanges : Option (List ℕ) → List Request → Request → Bool
exchanges instance past (WriteFile other (Some (OfInstance top.Snapshot)) append text) = is_same instance other && takes_snapshot (written_snapshot text)
exchanges instance past request = is_exchanged_by instance past (emitted past request)

-- how many exchanges there were in an instance's life
abbrev pub exchange_count : Option (List ℕ) → List Request → ℕ
exchange_count instance [] = 0
exchange_count instance (request ∷ past) =
    if makes instance request then 0 else exchange_count instance past + (if exchanges instance past request then 1 else 0)

-- the side that is live: side 0 at first, and another after each exchange
abbrev pub live_side : Option (List ℕ) → List Request → ℕ
live_side instance past = exchange_count instance past % 2

-- ---- the spare side

-- a number other than 1 empties the rings of the spare, whether that is freed or not
abbrev pub clears_spare : Option SnapshotWrite → Bool
clears_spare (Some Frees) = true
clears_spare (Some Empties) = true
clears_spare _ = false

-- whether there is a spare after a number was written
abbrev pub spare_written : Option SnapshotWrite → Option Bool
spare_written (Some Frees) = Some false
spare_written (Some Takes) = Some true
spare_written _ = None

-- whether there is one after a trigger text was written: a hist trigger needs none
abbrev pub spare_armed : Result TriggerText TriggerFault → Option Bool
spare_armed (Ok (AttachSnapshot spec)) = Some true
spare_armed _ = None

abbrev pub spare_armed_for : Option NumberedEvent → List ℕ → Option Bool
spare_armed_for None text = None
spare_armed_for (Some k) text = spare_armed (said_of k.event text)

-- a snapshot makes a spare, and so does a trigger for snapshots that is attached
abbrev pub sets_spare : List Request → File → List ℕ → Option Bool
sets_spare past (OfInstance top.Snapshot) text = spare_written (written_snapshot text)
sets_spare past (OfEvent name per_event.Trigger) text = spare_armed_for (event_named name past) text
sets_spare past file text = None

-- whether an instance has a spare side
abbrev pub has_spare : Option (List ℕ) → List Request → Bool
has_spare instance past = setting instance sets_spare false past
