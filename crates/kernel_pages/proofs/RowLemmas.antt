-- A record of a ring as a row.
use Rattle.std.proofs.Common.{◌≡◌, ℕ, suc, ◌+◌, ◌-◌, ◌*◌, ◌≤◌, List, [], ◌∷◌, ◌++◌, refl, sym, ap, ◌∙◌, length, map, take, drop, append_assoc, arith, length-append}
use Rattle.std.specs.Prelude.{unwrap_or}
use Rattle.std.specs.Option.{option_map_or}
use Rattle.std.proofs.lemmas.Bool.Decides.{nat_tests}
use Rattle.std.proofs.lemmas.List.{take_at, drop_at}
use Rattle.trace_record.specs.Record.{head_of, head_bytes, payload_in}
use Rattle.trace_record.proofs.HeadBytes.{head_of-head_bytes}
use Rattle.trace_format.specs.Definitions.{Definition}
use Rattle.trace_format.specs.Cells.{payload_of}
use Rattle.record_text.proofs.RecordLemmas.{sixteen}
use Rattle.trace_buffer.specs.CpuReadings.{taken_reading}
use Rattle.trace_buffer.specs.Families.{CpuReading}
use Rattle.trace_buffer.specs.declared.taken.Taken.{Taken}
use Rattle.kernel_pages.specs.KernelFormats.{common_data, fields_data, record_data}
use Rattle.kernel_pages.specs.Pages.{event_bytes, events_from, first_time}
use Rattle.kernel_pages.specs.Rows.{no_head, head_in, fields_of, data_of, row_of, rows_of}
use Rattle.kernel_pages.specs.FormatLaws.{PageHasFewRecords, RecordIsTold}
use Rattle.kernel_pages.proofs.EventLemmas.{length-event_bytes}

pub record_is_told : RecordIsTold
unfolding data_of
record_is_told events definition row head padding lost is =
    let payload = payload_of row in
    let bytes = head_bytes head ++ payload ++ padding in
    let read : head_in bytes ≡ head =
    ap (λ found. unwrap_or found no_head)
    (ap head_of (append_assoc (head_bytes head) payload padding) ∙ head_of-head_bytes head (payload ++ padding) is.ts_fits is.pid_fits is.event_fits is.payload_fits) in
    let fields : fields_of events head.event ≡ definition.fields = ap (λ found. option_map_or (λ (d : Definition). d.fields) found []) is.event in
    let there : payload_in head bytes ≡ payload =
    ap (λ bytes. take head.payload (drop 16 bytes)) (append_assoc (head_bytes head) payload padding)
    ∙ ap (take head.payload) (drop_at (head_bytes head) (payload ++ padding) 16 (sixteen head))
    ∙ take_at payload padding head.payload (sym is.payload) in
    (λ i. record { time = (read i).ts; lost = lost; bytes = record_data (read i) (fields_of events (read i).event) (payload_in (read i) bytes) })
    ∙ (λ i. record { time = head.ts; lost = lost; bytes = record_data head (fields i) (there i) })

-- as many rows as records
pub length-rows_of : (events : List Definition) (taken : List Taken) → length (rows_of events (map taken_reading taken)) ≡ length taken
length-rows_of events [] = refl
length-rows_of events (first ∷ taken) = ap suc (length-rows_of events taken)

-- a record's data have the common fields at least
data_size : (events : List Definition) (bytes : List ℕ) → 8 ≤ length (data_of events bytes)
unfolding data_of record_data
data_size events bytes =
    let head = head_in bytes in
    let fields = fields_data 8 (fields_of events head.event) (payload_in head bytes) in
    omega (arith, length-append (common_data head) fields)

three_words_each : (events : List Definition) (time : ℕ) (readings : List CpuReading) → 12 * length readings ≤ length (events_from time (rows_of events readings))
three_words_each events time [] = omega arith
three_words_each events time (first ∷ readings) =
    let row = row_of events first.lost first.rec in
    let some : 8 ≤ length row.bytes = data_size events first.rec in
    let size = length-event_bytes (row.time - time) row.bytes in
    let head : 4 + length row.bytes ≤ length (event_bytes (row.time - time) row.bytes) = grind (arith, nat_tests) in
    omega (arith, length-append (event_bytes (row.time - time) row.bytes) (events_from row.time (rows_of events readings)), three_words_each events row.time readings)

pub page_has_few_records : PageHasFewRecords
page_has_few_records events readings page =
    omega (arith, page.room, three_words_each events (first_time (rows_of events readings)) readings)
