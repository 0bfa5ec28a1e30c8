-- Requests that take memory late: none is taken before each refusal was looked at, that of a full history too, so `Memory` never takes the
-- place of one. (Of every other request `IsFoundEarly` lists the refusals of which that is promised.)
use Rattle.std.specs.Prelude.{◌≡◌, ℕ, true, false, List, Some, None, ⊤}
use Rattle.trace_command.specs.Paths.{File, SyntheticEvents, OfInstance, OfEvent}
use Rattle.trace_command.specs.Requests.{Request, RemoveInstance, WriteFile}
use Rattle.trace_command.specs.declared.file_name.EventFile.TheVariants as per_event
use Rattle.trace_command.specs.declared.file_name.TopFile.TheVariants as top
use Rattle.trace_trigger.specs.TriggerTexts.{HasFilter, is_hist_text}
use Rattle.tracer_specification.specs.Settings.{clears_filter}

-- a write: it takes memory before that just for a declaration, a filter that doesn't clear, a trigger's filter and a hist trigger
abbrev pub WriteTakesMemoryLate : File → List ℕ → Type 0
WriteTakesMemoryLate SyntheticEvents text = ⊥
WriteTakesMemoryLate (OfInstance top.EventsFilter) text = clears_filter text ≡ true
WriteTakesMemoryLate (OfEvent event per_event.Filter) text = clears_filter text ≡ true
WriteTakesMemoryLate (OfEvent event per_event.Trigger) text = (HasFilter text → ⊥) × (is_hist_text text ≡ false)
WriteTakesMemoryLate file text = ⊤

-- an emission takes memory for its row, an instance is made, and a read has a text, before the room in the history is looked at
abbrev pub TakesMemoryLate : Request → Type 0
TakesMemoryLate (RemoveInstance name) = ⊤
TakesMemoryLate (WriteFile instance None append text) = ⊤
TakesMemoryLate (WriteFile instance (Some file) append text) = WriteTakesMemoryLate file text
TakesMemoryLate request = ⊥
