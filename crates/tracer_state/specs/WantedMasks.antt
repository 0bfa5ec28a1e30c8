-- Masks of events: which of them some instance wants (events.rst, "Using Event Tracing", "Event triggers"; ftrace.rst, "The File System"). This asks for
-- less than the plans of events do, for which any trigger counts, paused or not. And a change may touch the masks of more events than it touches plans:
-- a table that two events share is paused by a write to the file of either.
use Rattle.std.specs.Prelude.{◌≡◌, ◌↔◌, ℕ, ◌<◌, Bool, true, List, IsBitSet}
use Rattle.std.specs.List.{list_any}
use Rattle.trace_instance.specs.WantedEvents.{wants_event}
use Rattle.tracer_state.specs.declared.state.Named.{Named}

-- whether some instance wants the emissions of the event at an index, from 0 in order of declaration
abbrev pub is_wanted : List Named → ℕ → Bool
is_wanted instances event = list_any (λ (n : Named). wants_event n.instance event) instances

-- of the mask's 64 bits just those are set at whose index some instance wants the event
abbrev pub IsMaskOf : List Named → ℕ → Type 0
IsMaskOf instances mask = (event : ℕ) → event < 64 → IsBitSet mask event ↔ (is_wanted instances event ≡ true)
