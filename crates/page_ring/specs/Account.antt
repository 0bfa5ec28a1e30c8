-- What a list of events says of a ring, from scratch: what was accepted, taken, lost and dropped, what is
-- kept, and what each call answers.
use Rattle.std.specs.Prelude.{ℕ, ◌+◌, ◌-◌, ◌==◌, nat_le, nat_lt, Bool, false, not, ◌&&◌, ◌||◌, List, [], ◌∷◌, ◌++◌, length, fold, filter, sum_by, Option, Some, None, if◌then◌else◌}
use Rattle.std.specs.List.{list_any}
use Rattle.trace_record.specs.Record.{timestamp}
use Rattle.page_ring.specs.Events.{Event, Put, Take}
use Rattle.page_ring.specs.Cut.{Accepted, cut, next_page}
use Rattle.page_ring.specs.declared.rings.Put.{Put as Answer}
use Rattle.page_ring.specs.declared.rings.Put.TheVariants.{Kept, KeptLosing, Dropped}
use Rattle.page_ring.specs.declared.rings.RingStats.{RingStats}

-- the accepted records in order, the consumed ones in order, which records were lost to overwriting, and
-- how many puts were refused
pub record Account : Type 0 where
  pub accepted : List (List ℕ)
  pub taken : List Accepted
  pub lost : Accepted → Bool
  pub dropped : ℕ

abbrev pub nothing : Account
nothing = record { accepted = []; taken = []; lost = λ _. false; dropped = 0 }

abbrev pub is_taken : Account → Accepted → Bool
is_taken a r = list_any (λ t. t.number == r.number) a.taken

-- the page of the last record taken
abbrev pub reader_page : Account → Option ℕ
reader_page a = fold (λ _ t. Some t.page) None a.taken

-- the number after that of the last record taken, 0 where none was
abbrev pub next_number : Account → ℕ
next_number a = fold (λ _ t. t.number + 1) 0 a.taken

-- the accepted records that were neither taken nor lost
abbrev pub kept : ℕ → Account → List Accepted
kept page_bytes a = filter (λ r. not (is_taken a r) && not (a.lost r)) (cut page_bytes a.accepted)

abbrev pub is_reader_page : Option ℕ → ℕ → Bool
is_reader_page None page = false
is_reader_page (Some reader) page = reader == page

-- a record that comes on this page overwrites r: r lies a whole round of pages behind, and not on the reader's page
abbrev pub is_overrun : ℕ → Option ℕ → ℕ → Accepted → Bool
is_overrun pages reader page r = nat_le (r.page + pages) page && not (is_reader_page reader r.page)

-- the kept records that would be lost by accepting this one
abbrev pub would_lose : ℕ → ℕ → Account → List ℕ → List Accepted
would_lose pages page_bytes a bytes =
    filter (is_overrun pages (reader_page a) (next_page page_bytes (cut page_bytes a.accepted) (length bytes))) (kept page_bytes a)

-- with overwriting every record is accepted, without it the one that loses no kept record
abbrev pub accepts : ℕ → ℕ → Account → List ℕ → Bool → Bool
accepts pages page_bytes a bytes overwrite = overwrite || length (would_lose pages page_bytes a bytes) == 0

abbrev pub with_accepted : ℕ → ℕ → Account → List ℕ → Account
with_accepted pages page_bytes a bytes =
    let page = next_page page_bytes (cut page_bytes a.accepted) (length bytes) in
    record a {
      accepted = a.accepted ++ bytes ∷ [];
      lost = λ r. a.lost r || (is_overrun pages (reader_page a) page r && not (is_taken a r));
    }

-- a read consumes the first kept record, if there is one
abbrev pub with_first_taken : Account → List Accepted → Account
with_first_taken a [] = a
with_first_taken a (r ∷ _) = record a { taken = a.taken ++ r ∷ [] }

abbrev pub after : ℕ → ℕ → Account → Event → Account
after pages page_bytes a (Put bytes overwrite) =
    if accepts pages page_bytes a bytes overwrite then with_accepted pages page_bytes a bytes else record a { dropped = a.dropped + 1 }
after pages page_bytes a Take = with_first_taken a (kept page_bytes a)

-- the account of a list of events, the oldest first, of a ring that was new or cleared before them
unfoldable pub account : ℕ → ℕ → List Event → Account
account pages page_bytes events = fold (after pages page_bytes) nothing events

-- how a put says how many records it lost
abbrev pub kept_losing : ℕ → Answer
kept_losing lost = if lost == 0 then Kept else KeptLosing lost

-- what a put answers after the events
unfoldable pub put_answer : ℕ → ℕ → List Event → List ℕ → Bool → Answer
put_answer pages page_bytes events bytes overwrite =
    let a = account pages page_bytes events in
    if accepts pages page_bytes a bytes overwrite then kept_losing (length (would_lose pages page_bytes a bytes)) else Dropped

-- a kept record as a consuming read finds it: how many accepted records lie between it and the one
-- consumed before, and its bytes
pub record Reading : Type 0 where
  pub lost : ℕ
  pub rec : List ℕ

-- the readings of kept records, where the first number not yet passed is given
abbrev pub readings_from : ℕ → List Accepted → List Reading
readings_from next [] = []
readings_from next (r ∷ rs) = record { lost = r.number - next; rec = r.bytes } ∷ readings_from (r.number + 1) rs

abbrev pub first : {X : Type 0} → List X → Option X
first [] = None
first (x ∷ _) = Some x

-- what the next consuming reads find after the events, in order
unfoldable pub readings_of : ℕ → ℕ → List Event → List Reading
readings_of pages page_bytes events =
    let a = account pages page_bytes events in
    readings_from (next_number a) (kept page_bytes a)

-- whether a record waits to be read after the events
unfoldable pub has_waiting : ℕ → ℕ → List Event → Bool
has_waiting pages page_bytes events = nat_lt 0 (length (readings_of pages page_bytes events))

abbrev pub first_timestamp : List Accepted → ℕ
first_timestamp [] = 0
first_timestamp (r ∷ _) = timestamp r.bytes

-- the statistics after the events
unfoldable pub stats_of : ℕ → ℕ → List Event → RingStats
stats_of pages page_bytes events =
    let a = account pages page_bytes events in
    record {
      entries = length (kept page_bytes a);
      overrun = length a.accepted - length (kept page_bytes a) - length a.taken;
      bytes = sum_by (λ r. length r.bytes) (kept page_bytes a);
      oldest = first_timestamp (kept page_bytes a);
      dropped = a.dropped;
      read = length a.taken;
    }
