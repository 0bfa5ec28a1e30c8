-- Which changes take memory when they are made, and which requests take none at all: nothing that they do can be refused any.
use Rattle.std.specs.Prelude.{◌≡◌, ℕ, Bool, true, false, ◌||◌, List, Some, None, codes, ⊤}
use Rattle.std.specs.List.{list_all}
use Rattle.trace_lex.specs.Blanks.{is_blank}
use Rattle.trace_command.specs.Paths.{File, OfInstance, OfEvent}
use Rattle.trace_command.specs.Requests.{Request, RemoveInstance, WriteFile}
use Rattle.trace_command.specs.declared.file_name.EventFile.TheVariants as per_event
use Rattle.trace_command.specs.declared.file_name.TopFile.TheVariants as top
use Rattle.trace_trigger.specs.TriggerTexts.{HasFilter, begins, is_hist_text}
use Rattle.tracer_specification.specs.LateMemory.{WriteTakesMemoryLate}
use Rattle.tracer_specification.specs.Snapshots.{has_spare, takes_snapshot, written_snapshot}
use Rattle.trace_instance.specs.Instances.{InstanceSeen}
use Rattle.trace_instance.specs.declared.change.InstanceChange.{InstanceChange}
use Rattle.trace_instance.specs.declared.change.InstanceChange.TheVariants.{Triggers, TakeSnapshot}
use Rattle.trace_instance.specs.declared.change.TriggerChange.{TriggerChange}
use Rattle.trace_instance.specs.declared.change.TriggerChange.TheVariants.{AttachSnapshot, AttachHist, MakeHist}

-- ---- changes

-- a change of an event's triggers takes memory for one that it attaches
abbrev pub TriggersTakeMemory : TriggerChange → Type 0
TriggersTakeMemory (AttachSnapshot trigger) = ⊤
TriggersTakeMemory (AttachHist attached) = ⊤
TriggersTakeMemory (MakeHist made) = ⊤
TriggersTakeMemory change = ⊥

-- so does a change of an instance, and a snapshot takes memory for a spare side, if there is none. No other change takes any.
abbrev pub TakesMemory : InstanceSeen → InstanceChange → Type 0
TakesMemory i (Triggers index append change) = TriggersTakeMemory change
TakesMemory i TakeSnapshot = i.sides.spare ≡ None
TakesMemory i change = ⊥

-- ---- requests

-- a text that is written to a `trigger` file attaches none: it is blank, or begins with a `!`
abbrev pub attaches_none : List ℕ → Bool
attaches_none text = list_all is_blank text || begins (codes "!") text

-- a write takes no memory, where there is a spare side or is none: it takes none before each refusal was looked at, and then takes no snapshot that
-- needs a spare side and attaches no trigger
abbrev pub WriteTakesNoMemory : Bool → File → List ℕ → Type 0
WriteTakesNoMemory spare (OfInstance top.Snapshot) text = takes_snapshot (written_snapshot text) ≡ true → spare ≡ true
WriteTakesNoMemory spare (OfEvent event per_event.Trigger) text =
    (HasFilter text → ⊥) × (is_hist_text text ≡ false) × (attaches_none text ≡ true)
WriteTakesNoMemory spare file text = WriteTakesMemoryLate file text

-- a request takes no memory after this past: an instance that is removed, and such a write. (An emission takes memory for its row, an instance that
-- is made for itself, and a read for its text.)
abbrev pub TakesNoMemory : List Request → Request → Type 0
TakesNoMemory past (RemoveInstance name) = ⊤
TakesNoMemory past (WriteFile instance None append text) = ⊤
TakesNoMemory past (WriteFile instance (Some file) append text) = WriteTakesNoMemory (has_spare instance past) file text
TakesNoMemory past request = ⊥
