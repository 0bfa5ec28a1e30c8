-- The records that are laid out one after another: their events, and how many they are.
use Rattle.std.proofs.Common.{◌≡◌, ℕ, suc, ◌+◌, ◌-◌, ◌≤◌, List, ◌∷◌, ◌++◌, length, take, drop, map, Option, Some, None, sym, ap, ◌∙◌, arith}
use Rattle.std.specs.Option.{option_map_or}
use Rattle.std.proofs.lemmas.Bool.Decides.{nat_tests}
use Rattle.trace_format.specs.Definitions.{Definition}
use Rattle.trace_buffer.specs.CpuReadings.{taken_reading}
use Rattle.trace_buffer.specs.declared.taken.Taken.{Taken}
use Rattle.kernel_pages.specs.declared.page_row.PageRow.{PageRow}
use Rattle.kernel_pages.specs.Pages.{event_bytes, events_from, events_of, lost_before, lost_bytes}
use Rattle.kernel_pages.specs.Rows.{data_of, head_in, row_of, rows_of}
use Rattle.kernel_pages.specs.Taking.{room_left, taken_after, taken_of}
use Rattle.kernel_pages.proofs.EventLemmas.{length-event_bytes}
use Rattle.kernel_pages.proofs.TakingLemmas.{at_once, counted_are_a_page, lost_is_small, room_left-fits}

-- the events of the first rows, of as many as have room
abbrev pub told : ℕ → ℕ → List PageRow → List ℕ
told room time rows = events_from time (take (taken_after room time rows) rows)

-- the rows of the records from an index on
abbrev pub rows_from : List Definition → List Taken → ℕ → List PageRow
rows_from events taken i = rows_of events (map taken_reading (drop i taken))

-- a record of a ring fits a page
pub first_has_room : (lost size took : ℕ) (bytes : List ℕ) (room : Option ℕ) → room ≡ None → room ≡ room_left (4080 - took) 0 size
    → took ≡ length (lost_bytes lost) → size ≡ length bytes → length bytes ≤ 4056 → ⊥
first_has_room lost size took bytes room none is took_is size_is few =
    let event = length-event_bytes 0 bytes in
    let head : length (event_bytes 0 bytes) ≤ 8 + length bytes = grind (arith, nat_tests) in
    let small = lost_is_small lost in
    let fits = room_left-fits (4080 - took) 0 bytes (omega arith) in
    let same : room ≡ room_left (4080 - took) 0 (length bytes) = is ∙ ap (λ n. room_left (4080 - took) 0 n) size_is in
    cc

-- a first record and those after it that have room
module _ (events : List Definition) (first : Taken) (further : List Taken) (time size took left count : ℕ) (bytes : List ℕ) (room : Option ℕ)
    (at : time ≡ (head_in first.rec.now).ts) (laid : bytes ≡ data_of events first.rec.now) (size_is : size ≡ length bytes)
    (took_is : took ≡ length (lost_bytes first.lost)) (is : room ≡ room_left (4080 - took) 0 size) (some : room ≡ Some left)
    (counted : count ≡ taken_after left time (rows_of events (map taken_reading further))) where
  -- they are those that a page takes
  pub first_counted : 1 + count ≡ taken_of (rows_of events (map taken_reading (first ∷ further)))
  first_counted =
      let row = row_of events first.lost first.rec.now in
      let more = rows_of events (map taken_reading further) in
      let fits : Some left ≡ room_left (4080 - length (lost_bytes first.lost)) 0 (length row.bytes) =
      sym some ∙ is ∙ (λ i. room_left (4080 - took_is i) 0 ((size_is ∙ ap length laid) i)) in
      let same : count ≡ taken_after left row.time more = counted ∙ ap (λ t. taken_after left t more) at in
      let one : 1 + count ≡ suc count = omega arith in
      one ∙ ap suc same ∙ ap (λ o. option_map_or (λ l. suc (taken_after l row.time more)) o 0) fits

  -- and there is room for their events
  pub first_room : (out : List ℕ) → out ≡ event_bytes 0 bytes ++ events_from time (take count (rows_of events (map taken_reading further)))
      → length out + length (lost_bytes first.lost) ≤ 4080
  first_room out written =
      let row = row_of events first.lost first.rec.now in
      let more = rows_of events (map taken_reading further) in
      let page = counted_are_a_page (row ∷ more) (1 + count) first_counted in
      let one : 1 + count ≡ suc count = omega arith in
      let rows : take (1 + count) (row ∷ more) ≡ row ∷ take count more = ap (λ n. take n (row ∷ more)) one in
      let same : events_of (take (1 + count) (row ∷ more)) ≡ out =
      ap events_of rows
      ∙ ap (λ event. event ++ events_from row.time (take count more)) (at_once row)
      ∙ (λ i. event_bytes 0 (sym laid i) ++ events_from (sym at i) (take count more))
      ∙ sym written in
      let lost : lost_before (take (1 + count) (row ∷ more)) ≡ first.lost = ap lost_before rows in
      omega (arith, page.room, ap length same, ap (λ l. length (lost_bytes l)) lost)
