-- Pipes that reads wait for. What is said of them is of open files and reads that wait alone, so that it stays true over calls of the program, which leave
-- both as they are.
use Rattle.std.specs.Prelude.{◌≡◌, ℕ, true, false, Bool, not, ◌||◌, List, Option, Some, None, All, Contains, slice_index_or}
use Rattle.trace_command.specs.Requests.{Request}
use Rattle.trace_format.specs.Catalogs.{event_of}
use Rattle.trace_format.specs.Definitions.{Definition}
use Rattle.tracer_specification.specs.IdleEvents.{wants}
use Rattle.tracer_specification.specs.Settings.{declared_events}
use Rattle.mount_tree.specs.NodePaths.{owner_name}
use Rattle.mount_tree.specs.ScenesAfter.{scene_after}
use Rattle.mount_replies.specs.Pipes.{is_used_up}
use Rattle.mount_replies.specs.Services.{OpenSeen, file_at}
use Rattle.mount_replies.specs.declared.dry_pipes.DryPipe.{DryPipe}
use Rattle.mount_replies.specs.declared.parked.Parked.{Parked}
use Rattle.mount_replies.specs.declared.wanted_events.Wanted.{Wanted}
use Rattle.mount_replies.specs.declared.wanted_events.Wanted.TheVariants.{Unknown, Nowhere}

-- a read of an open file waits as long as no record waits in one of these pipes, and its instance records any as the slot says
pub record WaitsIn (slots : List (Option DryPipe)) (file : OpenSeen) : Type 0 where
  pub used_up : is_used_up file ≡ true
  pub tracing : Bool
  pub slot : Contains slots (Some (record { owner = file.owner; file = file.file; tracing = tracing }))
  pub waits : (tracing || not file.has_read) ≡ true

abbrev pub IsOpenIn : List (Option DryPipe) → Option OpenSeen → Type 0
IsOpenIn slots None = ⊥
IsOpenIn slots (Some file) = WaitsIn slots file

-- a parked read was not interrupted, and waits so
abbrev pub IsWatched : List (Option OpenSeen) → List (Option DryPipe) → Parked → Type 0
IsWatched files slots read = (read.interrupted ≡ false) × IsOpenIn slots (file_at read.handle files)

-- each parked read waits for a pipe of these slots
abbrev pub Covers : List (Option OpenSeen) → List Parked → List (Option DryPipe) → Type 0
Covers files parked slots = All (IsWatched files slots) parked

-- ---- events that no instance of a pipe wants

-- the pipes, and by the numbers of events whether an instance of one wants them
pub record WatchSeen : Type 0 where
  pub slots : List (Option DryPipe)
  pub events : List Wanted

abbrev pub slots_of : WatchSeen → List (Option DryPipe)
slots_of watch = watch.slots

-- after these requests, which led to a tracer with so many CPUs, the instance of a pipe does not want the event of this number, if there is one. (Of an
-- instance that was removed it speaks of the top one: then a read is due, and the watch ends.)
abbrev pub IsUnwantedBy : ℕ → List Request → ℕ → Option DryPipe → Type 0
IsUnwantedBy cpus past number None = Unit {0}
IsUnwantedBy cpus past number (Some pipe) =
    (event : Definition) → event_of (declared_events past) number ≡ Some event
    → wants (owner_name (scene_after cpus past) pipe.owner) event past ≡ false

-- nor does any of these
abbrev pub IsUnwanted : ℕ → List Request → List (Option DryPipe) → ℕ → Type 0
IsUnwanted cpus past slots number = All (IsUnwantedBy cpus past number) slots

-- what is known is so
abbrev pub AreKnown : ℕ → List Request → WatchSeen → Type 0
AreKnown cpus past watch = (number : ℕ) → slice_index_or watch.events number Unknown ≡ Nowhere → IsUnwanted cpus past watch.slots number
