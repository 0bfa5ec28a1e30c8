-- The definitions once more, in the words of the subject.
use Rattle.std.specs.Prelude.{◌≡◌, ◌≢◌, ◌↔◌, ℕ, ◌+◌, ◌<◌, ◌≤◌, Bool, true, false, not, ◌&&◌, List, [], ◌∷◌, ◌++◌, length, drop, take, map, filter, count_by, sum_by, All, Option, Some, IsSomeAnd, slice_get, replicate}
use Rattle.std.specs.List.{range_with_len}
use Rattle.page_ring.specs.declared.rings.RingStats.{RingStats}
use Rattle.page_ring.specs.Events.{Event, Put, Take}
use Rattle.page_ring.specs.Cut.{Accepted, cut, filled, last_page}
use Rattle.page_ring.specs.Account.{Account, account, accepts, kept, is_taken, reader_page, readings_of, stats_of, first, Reading}
use Rattle.page_ring.specs.Shown.{Seen, StandsFor, offered}

abbrev pub is_put : Event → Bool
is_put (Put _ _) = true
is_put Take = false

-- a ring was offered as many records as were put since it was new or cleared
abbrev pub OfferedIsPuts : Type 0
OfferedIsPuts = (ring : Seen) (events : List Event) → StandsFor ring events → offered ring ≡ count_by is_put events

-- the put after these events is accepted
abbrev pub IsAccepted : ℕ → ℕ → List Event → List ℕ → Bool → Type 0
IsAccepted pages page_bytes events bytes overwrite =
    (account pages page_bytes (events ++ Put bytes overwrite ∷ [])).accepted ≡ (account pages page_bytes events).accepted ++ bytes ∷ []

-- record r is lost after the events: among them is a put that was accepted and whose record lies a round of pages or
-- more behind r; in the events up to this one r wasn't taken, and after them it didn't lie on the reader page
pub record IsLostIn (pages page_bytes : ℕ) (events : List Event) (r : Accepted) : Type 0 where
  pub before : List Event
  pub bytes : List ℕ
  pub overwrite : Bool
  pub later : List Event
  pub parts : events ≡ (before ++ Put bytes overwrite ∷ []) ++ later
  pub accepted : IsAccepted pages page_bytes before bytes overwrite
  pub far : let part = account pages page_bytes (before ++ Put bytes overwrite ∷ []) in r.page + pages ≤ last_page (cut page_bytes part.accepted)
  pub untaken : is_taken (account pages page_bytes (before ++ Put bytes overwrite ∷ [])) r ≡ false
  pub away : reader_page (account pages page_bytes (before ++ Put bytes overwrite ∷ [])) ≢ Some r.page

abbrev pub LostBySomePut : Type 0
LostBySomePut = (pages page_bytes : ℕ) (events : List Event) (r : Accepted) → ((account pages page_bytes events).lost r ≡ true) ↔ IsLostIn pages page_bytes events r

-- with overwriting every put is accepted; without it, exactly where accepting the record would lose no kept record
abbrev pub AcceptedAlways : Type 0
AcceptedAlways = (pages page_bytes : ℕ) (events : List Event) (bytes : List ℕ) → IsAccepted pages page_bytes events bytes true

abbrev pub AcceptedWithoutLoss : Type 0
AcceptedWithoutLoss =
    (pages page_bytes : ℕ) (events : List Event) (bytes : List ℕ)
    → IsAccepted pages page_bytes events bytes false
    ↔ All (λ r. (account pages page_bytes (events ++ Put bytes true ∷ [])).lost r ≡ false) (kept page_bytes (account pages page_bytes events))

-- a record that isn't accepted changes the number of dropped ones and nothing else
abbrev pub DroppedOnly : Type 0
DroppedOnly =
    (pages page_bytes : ℕ) (events : List Event) (bytes : List ℕ) (overwrite : Bool)
    → ¬ IsAccepted pages page_bytes events bytes overwrite
    → account pages page_bytes (events ++ Put bytes overwrite ∷ []) ≡ (let a = account pages page_bytes events in record a { dropped = a.dropped + 1 })

-- the cut of accepted records that fit a page: they keep their order and bytes, the first lies on page 0, and each further one on
-- the page of the one before it while there is room for it behind the others, else on the next page
pub record IsGreedy (page_bytes : ℕ) (accepted : List (List ℕ)) (records : List Accepted) : Type 0 where
  pub bytes : map (λ r. r.bytes) records ≡ accepted
  pub number : (i : ℕ) (r : Accepted) → slice_get records i ≡ Some r → r.number ≡ i
  pub begins : (r : Accepted) → slice_get records 0 ≡ Some r → r.page ≡ 0
  pub same_page : (i : ℕ) (r s : Accepted) → slice_get records i ≡ Some r → slice_get records (i + 1) ≡ Some s → filled r.page (take (i + 1) records) + length s.bytes ≤ page_bytes → s.page ≡ r.page
  pub next_page : (i : ℕ) (r s : Accepted) → slice_get records i ≡ Some r → slice_get records (i + 1) ≡ Some s → page_bytes < filled r.page (take (i + 1) records) + length s.bytes → s.page ≡ r.page + 1

abbrev pub CutIsGreedy : Type 0
CutIsGreedy =
    (page_bytes : ℕ) (accepted : List (List ℕ)) → All (λ bytes. length bytes ≤ page_bytes) accepted → IsGreedy page_bytes accepted (cut page_bytes accepted)

-- a consuming read takes the kept record with the least number, and leaves the others kept
pub record ReadsLeast (pages page_bytes : ℕ) (events : List Event) (r : Accepted) (rest : List Accepted) : Type 0 where
  pub least : All (λ s. r.number < s.number) rest
  pub taken : (account pages page_bytes (events ++ Take ∷ [])).taken ≡ (account pages page_bytes events).taken ++ r ∷ []
  pub kept_after : kept page_bytes (account pages page_bytes (events ++ Take ∷ [])) ≡ rest

abbrev pub LeastIsRead : Type 0
LeastIsRead =
    (pages page_bytes : ℕ) (events : List Event) (r : Accepted) (rest : List Accepted)
    → kept page_bytes (account pages page_bytes events) ≡ r ∷ rest → ReadsLeast pages page_bytes events r rest

-- what such a read tells: how many accepted records lie between the one consumed before, or the beginning, and this one
pub record TellsLost (a : Account) (r : Accepted) (reading : Reading) : Type 0 where
  pub rec : reading.rec ≡ r.bytes
  pub from_beginning : a.taken ≡ [] → reading.lost ≡ r.number
  pub from_last : (before : List Accepted) (last : Accepted) → a.taken ≡ before ++ last ∷ [] → last.number + 1 + reading.lost ≡ r.number

abbrev pub LostIsBetween : Type 0
LostIsBetween =
    (pages page_bytes : ℕ) (events : List Event) (r : Accepted) (rest : List Accepted)
    → kept page_bytes (account pages page_bytes events) ≡ r ∷ rest
    → IsSomeAnd (first (readings_of pages page_bytes events)) (TellsLost (account pages page_bytes events) r)

-- what is listed is what consuming reads find one after another
abbrev pub ReadingsAreAhead : Type 0
ReadingsAreAhead =
    (pages page_bytes : ℕ) (events : List Event) → readings_of pages page_bytes (events ++ Take ∷ []) ≡ drop 1 (readings_of pages page_bytes events)

-- so many reads leave what is kept behind as many records
abbrev pub TakesLeaveTheRest : Type 0
TakesLeaveTheRest =
    (pages page_bytes : ℕ) (events : List Event) (n : ℕ) → readings_of pages page_bytes (events ++ replicate n Take) ≡ drop n (readings_of pages page_bytes events)

-- with nothing kept, a read changes nothing
abbrev pub NothingToRead : Type 0
NothingToRead =
    (pages page_bytes : ℕ) (events : List Event)
    → kept page_bytes (account pages page_bytes events) ≡ [] → account pages page_bytes (events ++ Take ∷ []) ≡ account pages page_bytes events

-- a put of a record that passes the test, or a read
abbrev pub puts_pass : (List ℕ → Bool) → Event → Bool
puts_pass test (Put bytes _) = test bytes
puts_pass test Take = true

-- what holds of each record that was put holds of each one that is kept
abbrev pub KeptWerePut : Type 0
KeptWerePut =
    (pages page_bytes : ℕ) (events : List Event) (test : List ℕ → Bool)
    → All (λ e. puts_pass test e ≡ true) events → All (λ k. test k.rec ≡ true) (readings_of pages page_bytes events)

-- a record that was neither taken nor lost
abbrev pub is_kept : Account → Accepted → Bool
is_kept a r = not (is_taken a r) && not (a.lost r)

-- of the accepted records, the statistics count those that are kept, those that are lost and those that were taken, and
-- none was both taken and lost
pub record CountsRecords (a : Account) (records : List Accepted) (stats : RingStats) : Type 0 where
  pub entries : stats.entries ≡ count_by (is_kept a) records
  pub bytes : stats.bytes ≡ sum_by (λ r. length r.bytes) (filter (is_kept a) records)
  pub overrun : stats.overrun ≡ count_by a.lost records
  pub read : stats.read ≡ count_by (is_taken a) records
  pub apart : All (λ r. (is_taken a r && a.lost r) ≡ false) records

abbrev pub CountsAreOfRecords : Type 0
CountsAreOfRecords =
    (pages page_bytes : ℕ) (events : List Event)
    → let a = account pages page_bytes events in CountsRecords a (cut page_bytes a.accepted) (stats_of pages page_bytes events)

-- the event is a put that is refused after the events before it
abbrev pub is_refused : ℕ → ℕ → List Event → Option Event → Bool
is_refused pages page_bytes before (Some (Put bytes overwrite)) = not (accepts pages page_bytes (account pages page_bytes before) bytes overwrite)
is_refused pages page_bytes before _ = false

-- dropped counts the places in the list of events where a put is refused
abbrev pub DroppedAreRefused : Type 0
DroppedAreRefused =
    (pages page_bytes : ℕ) (events : List Event)
    → (stats_of pages page_bytes events).dropped
    ≡ count_by (λ i. is_refused pages page_bytes (take i events) (slice_get events i)) (range_with_len 0 (length events))
