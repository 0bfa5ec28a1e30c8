-- How many rows a page takes, row by row.
use Rattle.std.specs.Prelude.{ℕ, suc, ◌+◌, ◌-◌, ◌^◌, ◌==◌, ◌&&◌, nat_lt, nat_le, if◌then◌else◌, List, [], ◌∷◌, length, Option, None, Some}
use Rattle.std.specs.Option.{option_map_or}
use Rattle.kernel_pages.specs.declared.page_row.PageRow.{PageRow}
use Rattle.kernel_pages.specs.Pages.{lost_bytes}

-- how many bytes an event has before its data
abbrev pub event_head_size : ℕ → ℕ → ℕ
event_head_size delta size = (if nat_lt delta (2 ^ 27) then 0 else 8) + (if nat_le size 112 then 4 else 8)

-- the room that data of a size leaves
unfoldable pub room_left : ℕ → ℕ → ℕ → Option ℕ
room_left room delta size =
    let event_size = event_head_size delta size + size in
    if nat_le event_size room then Some (room - event_size) else None

-- the room that a row leaves which follows a row of a time, if it can
unfoldable pub room_after : ℕ → ℕ → PageRow → Option ℕ
room_after room time row =
    if (row.lost == 0 && nat_le time row.time) && nat_lt (row.time - time) (2 ^ 59) then room_left room (row.time - time) (length row.bytes) else None

abbrev pub taken_after : ℕ → ℕ → List PageRow → ℕ
taken_after room time [] = 0
taken_after room time (row ∷ rows) = option_map_or (λ left. suc (taken_after left row.time rows)) (room_after room time row) 0

abbrev pub taken_of : List PageRow → ℕ
taken_of [] = 0
taken_of (row ∷ rows) =
    option_map_or (λ left. suc (taken_after left row.time rows)) (room_left (4080 - length (lost_bytes row.lost)) 0 (length row.bytes)) 0
