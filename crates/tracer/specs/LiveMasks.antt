-- The mask of a tracer that keeps no history: the events of which an emission may do more than count the clock (events.rst, "Using Event Tracing", "Event
-- triggers"; ftrace.rst, "The File System"; histogram.rst, "hist triggers"). The newest request comes first.
use Rattle.std.specs.Prelude.{◌≡◌, ◌↔◌, ℕ, ◌-◌, ◌<◌, ◌≤◌, true, List, length, Some, IsBitSet}
use Rattle.trace_command.specs.Requests.{Request}
use Rattle.trace_format.specs.Catalogs.{event_of}
use Rattle.trace_format.specs.Definitions.{Definition}
use Rattle.tracer_specification.specs.IdleEvents.{is_idle}
use Rattle.tracer_specification.specs.Settings.{declared_events}

-- The lowest bit is that of event 1, the first that was declared. An event's bit is clear exactly if the event is idle after these requests; the bits of
-- no event are clear.
pub record IsMaskAfter (past : List Request) (mask : ℕ) : Type 0 where
  pub declared : (number : ℕ) (event : Definition) → event_of (declared_events past) number ≡ Some event
      → (¬ IsBitSet mask (number - 1)) ↔ (is_idle event past ≡ true)
  pub others : (index : ℕ) → length (declared_events past) ≤ index → index < 64 → ¬ IsBitSet mask index
