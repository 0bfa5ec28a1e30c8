-- Requests that take no memory.
use Rattle.std.proofs.Common.{◌≡◌, ℕ, Bool, true, false, if◌then◌else◌, is_some, List, Option, Some, None, refl}
use Rattle.page_ring.specs.Events.{Event}
use Rattle.trace_buffer.specs.Buffers as buffers
use Rattle.trace_snapshot.specs.Sides.{SpareStandsFor}
use Rattle.trace_command.specs.Paths.{File, OfInstance, OfEvent}
use Rattle.trace_command.specs.Requests.{Request, RemoveInstance, WriteFile}
use Rattle.trace_command.specs.declared.command.Config.{Config}
use Rattle.trace_command.specs.declared.file_name.EventFile.TheVariants as per_event
use Rattle.trace_command.specs.declared.file_name.TopFile.TheVariants as top
use Rattle.tracer_specification.specs.LateMemory.{TakesMemoryLate, WriteTakesMemoryLate}
use Rattle.tracer_specification.specs.Rings.{other_rings}
use Rattle.tracer_specification.specs.Snapshots.{has_spare}
use Rattle.trace_instance.specs.Instances.{InstanceSeen, InstanceStandsFor}
use Rattle.trace_instance.specs.MemoryTaken.{TakesNoMemory, WriteTakesNoMemory}

-- they take none before each refusal was looked at
write_late : (spare : Bool) (file : File) (text : List ℕ) → WriteTakesNoMemory spare file text → WriteTakesMemoryLate file text
write_late spare (OfInstance top.Snapshot) text none = tt
write_late spare (OfEvent event per_event.Trigger) text none = (none.0, none.1)
write_late spare file text none = none

pub none-late : (past : List Request) (request : Request) → TakesNoMemory past request → TakesMemoryLate request
none-late past (RemoveInstance name) none = tt
none-late past (WriteFile instance None append text) none = tt
none-late past (WriteFile instance (Some file) append text) none = write_late (has_spare instance past) file text none
none-late past request none = absurd none

-- an instance has a spare side where the requests say so
pub spare-says : (g : Config) (name : Option (List ℕ)) (past : List Request) (i : InstanceSeen) → InstanceStandsFor g name past i
    → is_some i.sides.spare ≡ has_spare name past
spare-says g name past i stands = by (has_spare name past) i.sides.spare stands.sides.spare
  where
    by : (has : Bool) (spare : Option buffers.Seen)
        → SpareStandsFor spare (let family : Option (List (List Event)) = if has then Some (other_rings g name past) else None in family)
        → is_some spare ≡ has
    by true (Some side) is = refl
    by true None is = absurd is
    by false (Some side) is = absurd is
    by false None is = refl
