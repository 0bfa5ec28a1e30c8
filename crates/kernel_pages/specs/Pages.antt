-- A ring's binary page, as Linux hands it out by `trace_pipe_raw`: 4,096 bytes, of which the first 16 are a head. The events' layout is that
-- of include/linux/ring_buffer.h ("enum ring_buffer_type"), the head's that of `struct buffer_data_page`.
use Rattle.std.specs.Prelude.{◌≡◌, ℕ, ◌+◌, ◌-◌, ◌*◌, ◌/◌, ◌%◌, ◌^◌, ◌<◌, ◌≤◌, ◌==◌, nat_lt, nat_le, if◌then◌else◌, List, [], ◌∷◌, ◌++◌, length, drop, replicate}
use Rattle.std.specs.Int.{w32, w64, to_le_bytes}
use Rattle.std.specs.List.{AllByRecursion}
use Rattle.kernel_pages.specs.declared.page_row.PageRow.{PageRow}

-- ---- an event

-- data of so many ticks after the event before. The head is 32 bits, the low five of them `type_len`, the others the delta. Data of up to 28
-- words have their number of words there; others have 0, and then their length in bytes with that of the number itself.
abbrev pub data_event : ℕ → List ℕ → List ℕ
data_event delta bytes =
    if nat_le (length bytes) 112 then to_le_bytes w32 (length bytes / 4 + 32 * delta) ++ bytes
    else to_le_bytes w32 (32 * delta) ++ (to_le_bytes w32 (length bytes + 4) ++ bytes)

-- a time extend: `type_len` 30, the low 27 bits of a delta, and a word for the others
abbrev pub extend_event : ℕ → List ℕ
extend_event delta = to_le_bytes w32 (30 + 32 * (delta % 2 ^ 27)) ++ to_le_bytes w32 (delta / 2 ^ 27)

-- data with any delta below 2^59: one of 2^27 or more has a time extend of its own
unfoldable pub event_bytes : ℕ → List ℕ → List ℕ
event_bytes delta bytes = if nat_lt delta (2 ^ 27) then data_event delta bytes else extend_event delta ++ data_event 0 bytes

-- the events of rows, the first after a given time
abbrev pub events_from : ℕ → List PageRow → List ℕ
events_from time [] = []
events_from time (row ∷ rows) = event_bytes (row.time - time) row.bytes ++ events_from row.time rows

-- ---- a page

-- a page begins at the time of its first row
abbrev pub first_time : List PageRow → ℕ
first_time [] = 0
first_time (row ∷ rows) = row.time

-- how many records were lost before it: those before its first row
abbrev pub lost_before : List PageRow → ℕ
lost_before [] = 0
lost_before (row ∷ rows) = row.lost

abbrev pub events_of : List PageRow → List ℕ
events_of rows = events_from (first_time rows) rows

-- the number of lost records, if there are any, follows the events
abbrev pub lost_bytes : ℕ → List ℕ
lost_bytes lost = if lost == 0 then [] else to_le_bytes w64 lost

-- the length of the events; bit 31 says that records were lost, bit 30 that their number follows the events
abbrev pub commit_of : ℕ → ℕ → ℕ
commit_of size lost = if lost == 0 then size else size + (2 ^ 30 + 2 ^ 31)

-- the time, the commit, the events, the number of lost records, and zeros up to 4,096 bytes
unfoldable pub page_of : List PageRow → List ℕ
page_of rows =
    let events = events_of rows in
    let lost = lost_bytes (lost_before rows) in
    to_le_bytes w64 (first_time rows)
    ++ (to_le_bytes w64 (commit_of (length events) (lost_before rows))
    ++ (events ++ (lost ++ replicate (4080 - (length events + length lost)) 0)))

-- ---- which rows are one page

-- no row is earlier than the one before it, or 2^59 ticks or more later, which no delta tells
abbrev pub InTime : ℕ → List PageRow → Type 0
InTime time [] = Unit {0}
InTime time (row ∷ rows) = (time ≤ row.time) × (row.time - time < 2 ^ 59) × InTime row.time rows

-- rows that one page can tell: a delta tells each time, no record was lost but before the first, and there is room for the events and for the
-- number of lost records
pub record IsOnePage (rows : List PageRow) : Type 0 where
  pub in_time : InTime (first_time rows) rows
  pub none_lost : AllByRecursion (λ row. row.lost ≡ 0) (drop 1 rows)
  pub room : length (events_of rows) + length (lost_bytes (lost_before rows)) ≤ 4080
