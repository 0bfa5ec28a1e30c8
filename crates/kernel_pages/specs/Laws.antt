-- What is read of a page is what was put on it.
use Rattle.std.specs.Prelude.{◌≡◌, ◌%◌, ◌^◌, ◌<◌, ◌≤◌, List, [], ◌∷◌, length, map, Some}
use Rattle.std.specs.List.{AllByRecursion}
use Rattle.kernel_pages.specs.declared.page_row.PageRow.{PageRow}
use Rattle.kernel_pages.specs.Pages.{page_of, lost_before, IsOnePage}
use Rattle.kernel_pages.specs.ReadPages.{Event, read_page}

-- data of whole words, one at least, and numbers of 64 bits
pub record IsPageRow (row : PageRow) : Type 0 where
  pub words : length row.bytes % 4 ≡ 0
  pub some : 4 ≤ length row.bytes
  pub time : row.time < 2 ^ 64
  pub lost : row.lost < 2 ^ 64

-- a row as an event
abbrev pub event_of : PageRow → Event
event_of row = record { time = row.time; bytes = row.bytes }

-- a page of rows is read as these rows with their times, and as many records lost before them as were
abbrev pub PageIsRead : Type 0
PageIsRead =
    (rows : List PageRow) → IsOnePage rows → AllByRecursion IsPageRow rows
    → read_page (page_of rows) ≡ record { events = map event_of rows; lost = Some (lost_before rows) }

abbrev pub PageHasItsSize : Type 0
PageHasItsSize = (rows : List PageRow) → IsOnePage rows → length (page_of rows) ≡ 4096

-- a row alone is a page, if its data have at most 4,056 bytes
abbrev pub RowFits : Type 0
RowFits = (row : PageRow) → length row.bytes ≤ 4056 → IsOnePage (row ∷ [])
