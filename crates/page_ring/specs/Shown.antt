-- What a caller sees of a ring, and when that agrees with a list of events.
use Rattle.std.specs.Prelude.{◌≡◌, ℕ, ◌+◌, ◌^◌, List, length, Option}
use Rattle.page_ring.specs.Events.{Event}
use Rattle.page_ring.specs.Cut.{Accepted, cut, last_page, filled}
use Rattle.page_ring.specs.Account.{Account, account, kept, next_number, reader_page}

-- the visible facts: the kept records; how many records were accepted, how many taken, how many dropped; the number
-- after the last one taken, and its page; the page of the last accepted one, and how many bytes lie on it
pub record Shown : Type 0 where
  pub kept : List Accepted
  pub accepted : ℕ
  pub taken : ℕ
  pub dropped : ℕ
  pub next : ℕ
  pub reader_page : Option ℕ
  pub last_page : ℕ
  pub last_filled : ℕ

-- a ring as contracts see it: its shape and its visible facts
pub record Seen : Type 0 where
  pub pages : ℕ
  pub page_bytes : ℕ
  pub shown : Shown

-- the visible facts of an account
unfoldable pub shown_by : ℕ → Account → Shown
shown_by page_bytes a =
    let records = cut page_bytes a.accepted in
    record {
      kept = kept page_bytes a;
      accepted = length a.accepted;
      taken = length a.taken;
      dropped = a.dropped;
      next = next_number a;
      reader_page = reader_page a;
      last_page = last_page records;
      last_filled = filled (last_page records) records;
    }

-- each visible fact of the ring is that of the events
unfoldable pub StandsFor : Seen → List Event → Type 0
StandsFor ring events = ring.shown ≡ shown_by ring.page_bytes (account ring.pages ring.page_bytes events)

-- how many records were accepted or dropped
abbrev pub offered : Seen → ℕ
offered ring = ring.shown.accepted + ring.shown.dropped

-- how many records a ring may be offered since it was new or cleared
abbrev pub most_offered : ℕ
most_offered = 2 ^ 60
