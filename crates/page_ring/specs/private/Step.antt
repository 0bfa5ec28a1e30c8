-- What each call does to the visible facts, without the events.
use Rattle.std.specs.Prelude.{ℕ, ◌+◌, ◌-◌, ◌==◌, nat_le, Bool, not, ◌||◌, List, [], ◌∷◌, ◌++◌, length, filter, sum_by, Some, None, if◌then◌else◌}
use Rattle.page_ring.specs.Cut.{Accepted}
use Rattle.page_ring.specs.Account.{is_overrun, kept_losing, first_timestamp, readings_from, Reading}
use Rattle.page_ring.specs.Shown.{Shown}
use Rattle.page_ring.specs.declared.rings.Put.{Put as Answer}
use Rattle.page_ring.specs.declared.rings.Put.TheVariants.{Dropped}
use Rattle.page_ring.specs.declared.rings.RingStats.{RingStats}

-- nothing happened
abbrev pub empty : Shown
empty = record { kept = []; accepted = 0; taken = 0; dropped = 0; next = 0; reader_page = None; last_page = 0; last_filled = 0 }

-- the page of one more record
abbrev pub page_for : ℕ → Shown → ℕ → ℕ
page_for page_bytes s size = if nat_le (s.last_filled + size) page_bytes then s.last_page else s.last_page + 1

-- the kept records that a record on this page would overwrite, and those it would leave
abbrev pub overrun_by : ℕ → Shown → ℕ → List Accepted
overrun_by pages s page = filter (is_overrun pages s.reader_page page) s.kept

abbrev pub left_by : ℕ → Shown → ℕ → List Accepted
left_by pages s page = filter (λ r. not (is_overrun pages s.reader_page page r)) s.kept

abbrev pub accepts_shown : ℕ → ℕ → Shown → List ℕ → Bool → Bool
accepts_shown pages page_bytes s bytes overwrite = overwrite || length (overrun_by pages s (page_for page_bytes s (length bytes))) == 0

-- one more record on the last page
abbrev pub appended : Shown → List ℕ → Shown
appended s bytes =
    record s {
      kept = s.kept ++ record { number = s.accepted; page = s.last_page; bytes = bytes } ∷ [];
      accepted = s.accepted + 1;
      last_filled = s.last_filled + length bytes;
    }

-- the next page is begun, over the records that are in its way
abbrev pub moved : ℕ → Shown → Shown
moved pages s = record s { kept = left_by pages s (s.last_page + 1); last_page = s.last_page + 1; last_filled = 0 }

-- the facts once the record was accepted
abbrev pub with_kept : ℕ → ℕ → Shown → List ℕ → Shown
with_kept pages page_bytes s bytes =
    let page = page_for page_bytes s (length bytes) in
    record s {
      kept = left_by pages s page ++ record { number = s.accepted; page = page; bytes = bytes } ∷ [];
      accepted = s.accepted + 1;
      last_page = page;
      last_filled = (if nat_le (s.last_filled + length bytes) page_bytes then s.last_filled else 0) + length bytes;
    }

unfoldable pub after_put : ℕ → ℕ → Shown → List ℕ → Bool → Shown
after_put pages page_bytes s bytes overwrite =
    if accepts_shown pages page_bytes s bytes overwrite then with_kept pages page_bytes s bytes else record s { dropped = s.dropped + 1 }

unfoldable pub put_answer_shown : ℕ → ℕ → Shown → List ℕ → Bool → Answer
put_answer_shown pages page_bytes s bytes overwrite =
    if accepts_shown pages page_bytes s bytes overwrite then kept_losing (length (overrun_by pages s (page_for page_bytes s (length bytes)))) else Dropped

abbrev pub without_first_of : Shown → List Accepted → Shown
without_first_of s [] = s
without_first_of s (r ∷ rest) =
    record s { kept = rest; taken = s.taken + 1; next = r.number + 1; reader_page = Some r.page }

unfoldable pub without_first : Shown → Shown
without_first s = without_first_of s s.kept

unfoldable pub readings_shown : Shown → List Reading
readings_shown s = readings_from s.next s.kept

unfoldable pub stats_shown : Shown → RingStats
stats_shown s =
    record {
      entries = length s.kept;
      overrun = s.accepted - length s.kept - s.taken;
      bytes = sum_by (λ r. length r.bytes) s.kept;
      oldest = first_timestamp s.kept;
      dropped = s.dropped;
      read = s.taken;
    }
