-- Emissions and their rows, recorded or not (events.rst, "Using Event Tracing", "Event filtering"). The newest request comes first.
use Rattle.std.specs.Prelude.{ℕ, ◌+◌, ℤ, Bool, true, ◌&&◌, List, length, Option, Some, None, Result, Ok, Err}
use Rattle.trace_record.specs.Record.{record_of}
use Rattle.trace_filter.specs.Filters.{parsed_of}
use Rattle.trace_filter.specs.Values.{holds_of}
use Rattle.trace_format.specs.declared.bad_row.BadRow.{BadRow}
use Rattle.trace_format.specs.Cells.{Cells, payload_of}
use Rattle.trace_format.specs.Definitions.{Definition}
use Rattle.trace_format.specs.Rows.{row_of}
use Rattle.trace_format.specs.declared.pair.Pair.{Pair}
use Rattle.tracer_specification.specs.Settings.{NumberedEvent, event_named, is_enabled, is_tracing, filter_of, now_of}
use Rattle.trace_command.specs.Requests.{Request, Emission}

-- the bytes of a record: its head, the row's payload, and zeros up to a multiple of eight
unfoldable pub record_bytes : ℕ → ℤ → ℕ → Cells → List ℕ
record_bytes timestamp pid id row =
    record_of (record { ts = timestamp; pid = pid; event = id; payload = length (payload_of row) }) (payload_of row)

-- whether an event's filter holds of an emission. For a filter of the event and a row of it, `holds_of` is the truth of the trees that the
-- text spells, as a law of trace_filter says; `FiltersHoldAsTheirTrees` says it of the filter that an event has in a legal history.
unfoldable pub filter_holds : Definition → Option (List ℕ) → Cells → ℕ → ℤ → Bool
filter_holds event None row cpu pid = true
filter_holds event (Some text) row cpu pid = holds_of (parsed_of event text) (record { values = row.values; cpu = cpu; pid = pid })

-- ---- the row of an emission, recorded or not

-- an event with the row that an emission brings, and the CPU, the process and the time of the emission
pub record Emitted : Type 0 where
  pub k : NumberedEvent
  pub row : Cells
  pub cpu : ℕ
  pub pid : ℤ
  pub timestamp : ℕ

-- an emission of a declared event, whose pairs give a row
abbrev pub emitted_row : ℕ → ℕ → ℤ → NumberedEvent → Result Cells BadRow → Option Emitted
emitted_row timestamp cpu pid k (Ok row) = Some (record { k = k; row = row; cpu = cpu; pid = pid; timestamp = timestamp })
emitted_row timestamp cpu pid k (Err bad) = None

abbrev pub emitted_event : ℕ → ℕ → ℤ → List Pair → Option NumberedEvent → Option Emitted
emitted_event timestamp cpu pid pairs None = None
emitted_event timestamp cpu pid pairs (Some k) = emitted_row timestamp cpu pid k (row_of k.event pairs)

-- what a request after this past emits: its timestamp is the clock's next value
abbrev pub emitted : List Request → Request → Option Emitted
emitted past (Emission name cpu pid pairs) = emitted_event (now_of past + 1) cpu pid pairs (event_named name past)
emitted past _ = None

-- the record of an emission
abbrev pub emitted_bytes : Emitted → List ℕ
emitted_bytes e = record_bytes e.timestamp e.pid e.k.id e.row

-- whether an instance records an emission after this past: it records at all, the event is enabled and its filter holds
abbrev pub is_recorded : Option (List ℕ) → List Request → Emitted → Bool
is_recorded instance past e =
    is_tracing instance past && (is_enabled instance e.k.event.name past
    && filter_holds e.k.event (filter_of instance e.k.event.name past) e.row e.cpu e.pid)
