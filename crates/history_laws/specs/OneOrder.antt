-- `trace` and `trace_pipe` show one order (ftrace.rst, "The File System"). The newest request comes first.
use Rattle.std.specs.Prelude.{◌≡◌, ◌<◌, ℕ, ◌^◌, List, ◌++◌, length, map, take, Option, Some, None}
use Rattle.std.specs.List.{AllPairs, flat_map}
use Rattle.std.specs.List.Sorted.{IsNonDecreasingBy}
use Rattle.trace_record.specs.Record.{timestamp}
use Rattle.page_ring.specs.Account.{Reading}
use Rattle.page_ring.specs.Events.{Event}
use Rattle.trace_buffer.specs.Families.{CpuReading, on_cpu, cpu_readings}
use Rattle.trace_buffer.specs.Orders.{consume_any, merged}
use Rattle.record_text.specs.BufferText.{reading_line, taken_lines}
use Rattle.trace_command.specs.Requests.{Request}
use Rattle.trace_command.specs.declared.command.Config.{Config}
use Rattle.tracer_specification.specs.FileTexts.{shown_pipe, shown_trace}
use Rattle.tracer_specification.specs.Laws.{kept_readings, spare_readings, those_of}
use Rattle.tracer_specification.specs.Rings.{pipe_read, rings}
use Rattle.tracer_specification.specs.Settings.{declared_events}

-- the timestamps of records rise strictly
abbrev pub TimesRise : List Reading → Type 0
TimesRise records = AllPairs (λ earlier later. timestamp earlier.rec < timestamp later.rec) records

-- those that a ring keeps do, on either side, whatever was done, while there are fewer than 2^64 requests
abbrev pub KeptTimesRise : Type 0
KeptTimesRise =
    (g : Config) (past : List Request) (instance : Option (List ℕ)) (cpu : ℕ) → length past < 2 ^ 64
    → TimesRise (kept_readings g instance cpu past) × TimesRise (spare_readings g instance cpu past)

-- the records that `trace` shows
abbrev pub trace_records : Config → Option (List ℕ) → List Request → List CpuReading
trace_records g instance past = merged g.pages g.page_bytes (rings g instance past)

-- `cat trace_pipe` takes them, in the same order; a read with a limit takes the first of them
pub record ReadsTheTrace (g : Config) (past : List Request) (instance : Option (List ℕ)) : Type 0 where
  pub whole : (pipe_read g None (rings g instance past)).taken ≡ trace_records g instance past
  pub first : (limit : ℕ) → (pipe_read g (Some limit) (rings g instance past)).taken ≡ take limit (trace_records g instance past)

abbrev pub PipesReadTheTrace : Type 0
PipesReadTheTrace =
    (g : Config) (past : List Request) (instance : Option (List ℕ)) → length past < 2 ^ 64 → ReadsTheTrace g past instance

-- so it is for whatever rings of which the timestamps don't fall
abbrev pub OrdersAreOne : Type 0
OrdersAreOne =
    (pages page_bytes reads : ℕ) (family : List (List Event))
    → ((cpu : ℕ) → IsNonDecreasingBy (λ (r : Reading). timestamp r.rec) (cpu_readings pages page_bytes family cpu))
    → (consume_any pages page_bytes reads family).taken ≡ take reads (merged pages page_bytes family)

-- so the texts have lines of the same records: those of `trace` follow its head, and those of `trace_pipe` have the lines of lost
-- records among them
pub record ShowsOneOrder (g : Config) (past : List Request) (instance : Option (List ℕ)) : Type 0 where
  pub head : List ℕ
  pub trace : shown_trace g instance past None ≡ head ++ flat_map (reading_line (declared_events past)) (trace_records g instance past)
  pub pipe : shown_pipe g instance past None ≡ flat_map (taken_lines (declared_events past)) (trace_records g instance past)

abbrev pub TraceAndPipeShowOneOrder : Type 0
TraceAndPipeShowOneOrder =
    (g : Config) (past : List Request) (instance : Option (List ℕ)) → length past < 2 ^ 64 → ShowsOneOrder g past instance

-- and those of one CPU are in the order of its ring, as its own files show them
abbrev pub EachCpuKeepsItsOrder : Type 0
EachCpuKeepsItsOrder =
    (g : Config) (past : List Request) (instance : Option (List ℕ)) (cpu : ℕ) → length past < 2 ^ 64
    → those_of cpu (trace_records g instance past) ≡ map (on_cpu cpu) (kept_readings g instance cpu past)
