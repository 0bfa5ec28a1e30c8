-- What a page tells of a record of a ring.
use Rattle.std.specs.Prelude.{ℕ, pos, List, [], map, unwrap_or}
use Rattle.std.specs.Option.{option_map_or}
use Rattle.trace_record.specs.Record.{head_of, payload_in}
use Rattle.trace_record.specs.declared.head.Head.{Head}
use Rattle.trace_format.specs.declared.event.Field.{Field}
use Rattle.trace_format.specs.Definitions.{Definition}
use Rattle.trace_format.specs.Catalogs.{event_of}
use Rattle.trace_buffer.specs.Families.{CpuReading}
use Rattle.kernel_pages.specs.declared.page_row.PageRow.{PageRow}
use Rattle.kernel_pages.specs.KernelFormats.{record_data}

-- its head, or all 0 where the bytes are too few for one
abbrev pub no_head : Head
no_head = record { ts = 0; pid = pos 0; event = 0; payload = 0 }

abbrev pub head_in : List ℕ → Head
head_in bytes = unwrap_or (head_of bytes) no_head

-- the fields of the event of a number, or none
abbrev pub fields_of : List Definition → ℕ → List Field
fields_of events number = option_map_or (λ definition. definition.fields) (event_of events number) []

-- the record's data: the common fields, and those of its event
unfoldable pub data_of : List Definition → List ℕ → List ℕ
data_of events bytes =
    let head = head_in bytes in
    record_data head (fields_of events head.event) (payload_in head bytes)

-- the record as a row, if so many were lost before it
abbrev pub row_of : List Definition → ℕ → List ℕ → PageRow
row_of events lost bytes = record { time = (head_in bytes).ts; lost = lost; bytes = data_of events bytes }

-- records that consuming reads take, as rows
abbrev pub rows_of : List Definition → List CpuReading → List PageRow
rows_of events readings = map (λ taken. row_of events taken.lost taken.rec) readings
