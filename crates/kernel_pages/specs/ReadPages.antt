-- How a page is read, by the rules of Linux alone: those of include/linux/ring_buffer.h, and `rb_update_read_stamp` and `ring_buffer_read_page` of
-- kernel/trace/ring_buffer.c. A number's low byte is first. A word has 32 bits.
use Rattle.std.specs.Prelude.{ℕ, zero, suc, ◌+◌, ◌-◌, ◌*◌, ◌/◌, ◌%◌, ◌^◌, ◌==◌, ◌&&◌, nat_lt, if◌then◌else◌, List, [], ◌∷◌, length, take, drop, Option, None, Some}
use Rattle.std.specs.Int.{w32, w64}
use Rattle.trace_record.specs.Record.{number_at}

-- what is read: events with their times, and how many records were lost before them, if that is told
pub record Event : Type 0 where
  pub time : ℕ
  pub bytes : List ℕ

abbrev pub event_at : ℕ → List ℕ → Event
event_at time bytes = record { time = time; bytes = bytes }

pub record PageRead : Type 0 where
  pub events : List Event
  pub lost : Option ℕ

-- a time stamp has the low 59 bits of a time. The others are those of the time before it, or one more if the stamp would go back.
abbrev pub stamped : ℕ → ℕ → ℕ
stamped time stamp =
    let whole = time / 2 ^ 59 * 2 ^ 59 + stamp in
    if nat_lt (2 ^ 59 - 1) time && nat_lt whole time then whole + 2 ^ 59 else whole

-- The events of so many bytes at most, after a time. The first word of each entry has `type_len` and the delta. By `type_len`: data whose length a
-- second word tells; padding, to the page's end or as long as a second word tells; a time extend; a time stamp; data of so many words.
unfoldable pub read_events : ℕ → ℕ → List ℕ → List Event
read_events zero time bytes = []
read_events (suc most) time bytes =
    let type_len = number_at w32 0 bytes % 32 in
    let delta = number_at w32 0 bytes / 32 in
    let second = number_at w32 4 bytes in
    if nat_lt (length bytes) 4 then []
    else if type_len == 0 then event_at (time + delta) (take (second - 4) (drop 8 bytes)) ∷ read_events most (time + delta) (drop (4 + second) bytes)
    else if type_len == 29 then if delta == 0 then [] else read_events most time (drop (4 + second) bytes)
    else if type_len == 30 then read_events most (time + (delta + 2 ^ 27 * second)) (drop 8 bytes)
    else if type_len == 31 then read_events most (stamped time (delta + 2 ^ 27 * second)) (drop 8 bytes)
    else event_at (time + delta) (take (4 * type_len) (drop 4 bytes)) ∷ read_events most (time + delta) (drop (4 + 4 * type_len) bytes)

-- the number of lost records, for a commit and the bytes of the page: none without bit 31, not told without bit 30
unfoldable pub lost_told : ℕ → List ℕ → Option ℕ
lost_told commit bytes =
    if commit / 2 ^ 31 % 2 == 0 then Some 0
    else if commit / 2 ^ 30 % 2 == 0 then None
    else Some (number_at w64 (16 + commit % 2 ^ 30) bytes)

-- the page: its time, its commit, and as many bytes of events as the commit tells
unfoldable pub read_page : List ℕ → PageRead
read_page bytes =
    let commit = number_at w64 8 bytes in
    let size = commit % 2 ^ 30 in
    record { events = read_events size (number_at w64 0 bytes) (take size (drop 16 bytes)); lost = lost_told commit bytes }
