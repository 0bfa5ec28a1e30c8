-- What is read of a page, and how long it is.
use Rattle.std.proofs.Common.{◌≡◌, ℕ, ◌+◌, ◌-◌, ◌/◌, ◌%◌, ◌^◌, ◌<◌, ◌≤◌, ◌==◌, Bool, if◌then◌else◌, true, false, List, [], ◌∷◌, ◌++◌, length, take, drop, replicate, map, Some, None, IfSome, refl, sym, ap, ◌∙◌, arith, lit<, append_assoc, length-append}
use Rattle.std.specs.Prelude.{slice_get}
use Rattle.std.specs.Int.{w64, to_le_bytes}
use Rattle.std.specs.List.{AllByRecursion}
use Rattle.std.proofs.lemmas.Bool.Decides.{nat_tests}
use Rattle.std.proofs.lemmas.List.{take_all, take_at, drop_at, drop-drop, length-replicate}
use Rattle.std.proofs.lemmas.Nat.{from_le_bytes-to_le_bytes_8}
use Rattle.trace_record.specs.Record.{number_at}
use Rattle.kernel_pages.specs.declared.page_row.PageRow.{PageRow}
use Rattle.kernel_pages.specs.Pages.{event_bytes, events_of, lost_bytes, lost_before, first_time, commit_of, page_of, IsOnePage}
use Rattle.kernel_pages.specs.ReadPages.{read_events, lost_told, read_page}
use Rattle.kernel_pages.specs.Laws.{IsPageRow, event_of, PageIsRead, PageHasItsSize, RowFits}
use Rattle.kernel_pages.proofs.EventLemmas.{length-event_bytes}
use Rattle.kernel_pages.proofs.TakingLemmas.{at_once, lost_is_small}
use Rattle.kernel_pages.proofs.ReadLemmas.{read_rows}

commit_size : (size lost : ℕ) → size ≤ 4080 → commit_of size lost % 2 ^ 30 ≡ size
commit_size size lost few =
    elim (lost == 0) as (λ b. (if b then size else size + (2 ^ 30 + 2 ^ 31)) % 2 ^ 30 ≡ size) [ true ↦ omega arith | false ↦ omega arith ]

commit_fits : (size lost : ℕ) → size ≤ 4080 → commit_of size lost < 2 ^ 64
commit_fits size lost few =
    elim (lost == 0) as (λ b. (if b then size else size + (2 ^ 30 + 2 ^ 31)) < 2 ^ 64) [ true ↦ omega arith | false ↦ omega arith ]

lost_told-is : (size lost : ℕ) (bytes rest : List ℕ) → size ≤ 4080 → lost < 2 ^ 64 → drop (16 + size) bytes ≡ lost_bytes lost ++ rest → lost_told (commit_of size lost) bytes ≡ Some lost
unfolding lost_told
lost_told-is size lost bytes rest few fits follows = by (lost == 0) refl follows
  where
    by : (b : Bool) → (lost == 0) ≡ b → drop (16 + size) bytes ≡ (if b then [] else to_le_bytes w64 lost) ++ rest
        → (if (if b then size else size + (2 ^ 30 + 2 ^ 31)) / 2 ^ 31 % 2 == 0 then Some 0
        else if (if b then size else size + (2 ^ 30 + 2 ^ 31)) / 2 ^ 30 % 2 == 0 then None
        else Some (number_at w64 (16 + (if b then size else size + (2 ^ 30 + 2 ^ 31)) % 2 ^ 30) bytes)) ≡ Some lost
    by true e there =
        let zero : lost ≡ 0 = grind (arith, nat_tests) in
        let none : size / 2 ^ 31 % 2 ≡ 0 = omega arith in
        rw none (ap Some (sym zero))
    by false e there =
        let commit = size + (2 ^ 30 + 2 ^ 31) in
        let missed : commit / 2 ^ 31 % 2 ≡ 1 = omega arith in
        let stored : commit / 2 ^ 30 % 2 ≡ 1 = omega arith in
        let at : commit % 2 ^ 30 ≡ size = omega arith in
        let number : number_at w64 (16 + commit % 2 ^ 30) bytes ≡ lost =
        ap (λ n. number_at w64 (16 + n) bytes) at ∙ ap (number_at w64 0) there ∙ from_le_bytes-to_le_bytes_8 lost fits in
        rw (missed, stored) (ap Some number)

read_page-is : (bytes rest : List ℕ) (time commit : ℕ) → number_at w64 0 bytes ≡ time → number_at w64 8 bytes ≡ commit → drop 16 bytes ≡ rest
    → read_page bytes ≡ record { events = read_events (commit % 2 ^ 30) time (take (commit % 2 ^ 30) rest); lost = lost_told commit bytes }
unfolding read_page
read_page-is bytes rest time commit t c r =
    (λ i. record { events = read_events (c i % 2 ^ 30) (t i) (take (c i % 2 ^ 30) (r i)); lost = lost_told (c i) bytes })

first_fits : (rows : List PageRow) → AllByRecursion IsPageRow rows → first_time rows < 2 ^ 64
first_fits [] are = lit< tt
first_fits (row ∷ rows) are = are.0.time

lost_fits : (rows : List PageRow) → AllByRecursion IsPageRow rows → lost_before rows < 2 ^ 64
lost_fits [] are = lit< tt
lost_fits (row ∷ rows) are = are.0.lost

pub page_is_read : PageIsRead
unfolding page_of
page_is_read rows page are =
    let time = first_time rows in
    let lost = lost_before rows in
    let events = events_of rows in
    let size = length events in
    let few : size ≤ 4080 = let room = page.room in omega arith in
    let commit = commit_of size lost in
    let tail = lost_bytes lost ++ replicate (4080 - (size + length (lost_bytes lost))) 0 in
    let bytes = to_le_bytes w64 time ++ (to_le_bytes w64 commit ++ (events ++ tail)) in
    let at = commit_size size lost few in
    let begins = from_le_bytes-to_le_bytes_8 time (first_fits rows are) in
    let tells = from_le_bytes-to_le_bytes_8 commit (commit_fits size lost few) in
    let front : take (commit % 2 ^ 30) (events ++ tail) ≡ events = take_at events tail (commit % 2 ^ 30) (sym at) in
    let there : drop (16 + size) bytes ≡ tail = sym (drop-drop size 16 bytes) ∙ drop_at events tail size refl in
    let told = lost_told-is size lost bytes _ few (lost_fits rows are) there in
    let rows_are : read_events size time events ≡ map event_of rows = read_rows size time rows (omega arith) few page.in_time are in
    let read : read_events (commit % 2 ^ 30) time (take (commit % 2 ^ 30) (events ++ tail)) ≡ map event_of rows =
    (λ i. read_events (at i) time (front i)) ∙ rows_are in
    read_page-is bytes (events ++ tail) time commit begins tells refl
    ∙ (λ i. record { events = read i; lost = told i })

pub page_has_its_size : PageHasItsSize
unfolding page_of
page_has_its_size rows page =
    let events = events_of rows in
    let lost = lost_bytes (lost_before rows) in
    let zeros : List ℕ = replicate (4080 - (length events + length lost)) 0 in
    let room = page.room in
    omega (arith, length-append events (lost ++ zeros), length-append lost zeros, length-replicate {A = ℕ} (4080 - (length events + length lost)) 0)

-- the bytes of a page, written one part after another, and filled up with zeros
pub page_filled : (rows : List PageRow) (time lost commit count : ℕ) (events p0 p1 p2 p3 p4 page : List ℕ) → first_time rows ≡ time → lost_before rows ≡ lost
    → events_of rows ≡ events → length events + length (lost_bytes lost) ≤ 4080 → p0 ≡ [] → p1 ≡ p0 ++ to_le_bytes w64 time
    → commit ≡ commit_of (length events) lost → p2 ≡ p1 ++ to_le_bytes w64 commit → p3 ≡ p2 ++ events → p4 ≡ p3 ++ lost_bytes lost → count ≡ length p4
    → page ≡ take 4096 p4 ++ replicate (4096 - count) 0 → page ≡ page_of rows
unfolding page_of
page_filled rows time lost commit count events p0 p1 p2 p3 p4 page starts before are room e0 e1 commits e2 e3 e4 counted is =
    let told = to_le_bytes w64 (commit_of (length events) lost) in
    let all : p4 ≡ ((to_le_bytes w64 time ++ told) ++ events) ++ lost_bytes lost =
    e4 ∙ ap (λ front. front ++ lost_bytes lost) (e3 ∙ ap (λ front. front ++ events)
    (e2 ∙ (λ i. (e1 ∙ ap (λ front. front ++ to_le_bytes w64 time) e0) i ++ to_le_bytes w64 (commits i)))) in
    let size : length p4 ≡ 16 + (length events + length (lost_bytes lost)) =
    omega (arith, ap length all, length-append ((to_le_bytes w64 time ++ told) ++ events) (lost_bytes lost), length-append (to_le_bytes w64 time ++ told) events) in
    let few : length p4 ≤ 4096 = omega arith in
    let same : 4096 - count ≡ 4080 - (length events + length (lost_bytes lost)) = omega arith in
    let zeros : List ℕ = replicate (4080 - (length events + length (lost_bytes lost))) 0 in
    let regroup : (((to_le_bytes w64 time ++ told) ++ events) ++ lost_bytes lost) ++ zeros ≡ to_le_bytes w64 time ++ (told ++ (events ++ (lost_bytes lost ++ zeros))) =
    append_assoc ((to_le_bytes w64 time ++ told) ++ events) (lost_bytes lost) zeros
    ∙ append_assoc (to_le_bytes w64 time ++ told) events (lost_bytes lost ++ zeros)
    ∙ append_assoc (to_le_bytes w64 time) told (events ++ (lost_bytes lost ++ zeros)) in
    is
    ∙ (λ i. take_all 4096 p4 few i ++ replicate (same i) 0)
    ∙ ap (λ front. front ++ zeros) all
    ∙ regroup
    ∙ (λ i. to_le_bytes w64 (sym starts i) ++ (to_le_bytes w64 (commit_of (length (sym are i)) (sym before i))
    ++ (sym are i ++ (lost_bytes (sym before i) ++ replicate (4080 - (length (sym are i) + length (lost_bytes (sym before i)))) 0))))

pub row_fits : RowFits
row_fits row few =
    let same = ap length (at_once row) in
    let size = length-event_bytes 0 row.bytes in
    let head : length (event_bytes 0 row.bytes) ≤ 8 + length row.bytes = grind (arith, nat_tests) in
    let lost = lost_is_small row.lost in
    let sizes = length-append (event_bytes (row.time - row.time) row.bytes) [] in
    record { in_time = (omega arith, omega arith, tt); none_lost = tt; room = omega arith }

-- a count of rows, of which one page tells no more, is not 0 where the first fits
pub first_is_taken : (rows : List PageRow) (count : ℕ) → ((n : ℕ) → n ≤ length rows → IsOnePage (take n rows) → n ≤ count)
    → IfSome (slice_get rows 0) (λ row. length row.bytes ≤ 4056 → 0 < count)
first_is_taken [] count all = tt
first_is_taken (row ∷ rows) count all = λ few. let one = all 1 (omega arith) (row_fits row few) in omega arith
