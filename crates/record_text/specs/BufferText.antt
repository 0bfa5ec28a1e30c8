-- The texts of the `trace` and `trace_pipe` files (ftrace.rst, "The File System", "Output format"), from what the rings of a buffer keep.
use Rattle.std.specs.Prelude.{ℕ, ◌+◌, List, ◌++◌, length, map, sum_by, Option, Some, None}
use Rattle.std.specs.List.{flat_map}
use Rattle.page_ring.specs.Events.{Event}
use Rattle.page_ring.specs.Account.{stats_of}
use Rattle.trace_buffer.specs.Families.{CpuReading, on_cpu, cpu_readings, cpu_stats}
use Rattle.trace_buffer.specs.Orders.{merged}
use Rattle.trace_format.specs.Definitions.{Definition}
use Rattle.record_text.specs.RecordText.{record_line}
use Rattle.record_text.specs.TraceText.{lost_line, trace_head}

-- a record as a trace shows it
abbrev pub reading_line : List Definition → CpuReading → List ℕ
reading_line events r = record_line events r.cpu r.rec

-- and as a pipe shows it
unfoldable pub taken_lines : List Definition → CpuReading → List ℕ
taken_lines events r = lost_line r.cpu r.lost ++ record_line events r.cpu r.rec

-- what a pipe shows of the records that a read consumes
unfoldable pub pipe_text : List Definition → List CpuReading → List ℕ
pipe_text events taken = flat_map (taken_lines events) taken

-- how many records all rings keep, and how many were lost to overwriting
abbrev pub entries_of_all : ℕ → ℕ → List (List Event) → ℕ
entries_of_all pages page_bytes family = sum_by (λ events. (stats_of pages page_bytes events).entries) family

abbrev pub overrun_of_all : ℕ → ℕ → List (List Event) → ℕ
overrun_of_all pages page_bytes family = sum_by (λ events. (stats_of pages page_bytes events).overrun) family

-- what a trace shows, of one CPU or of all: so many pages of so many bytes has each ring
unfoldable pub trace_text : List Definition → ℕ → ℕ → List (List Event) → Option ℕ → List ℕ
trace_text events pages page_bytes family None =
    trace_head (entries_of_all pages page_bytes family) (entries_of_all pages page_bytes family + overrun_of_all pages page_bytes family) (length family)
    ++ flat_map (reading_line events) (merged pages page_bytes family)
trace_text events pages page_bytes family (Some cpu) =
    trace_head (cpu_stats pages page_bytes family cpu).entries
    ((cpu_stats pages page_bytes family cpu).entries + (cpu_stats pages page_bytes family cpu).overrun) (length family)
    ++ flat_map (reading_line events) (map (on_cpu cpu) (cpu_readings pages page_bytes family cpu))
