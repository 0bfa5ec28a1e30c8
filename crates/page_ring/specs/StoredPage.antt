-- What contracts see of a page of a ring.
use Rattle.std.specs.Prelude.{ℕ, List, []}

-- a stored record: its number among the accepted ones, and its bytes
pub record Stored : Type 0 where
  pub number : ℕ
  pub bytes : List ℕ

-- a page: its number, how many bytes of records came onto it, its unread records in order, the number of the next record to
-- come, and for how many bytes it has memory
pub record StoredPage : Type 0 where
  pub number : ℕ
  pub filled : ℕ
  pub records : List Stored
  pub next : ℕ
  pub room : ℕ

-- a page with no records
abbrev pub empty_page : ℕ → ℕ → ℕ → StoredPage
empty_page number next room = record { number = number; filled = 0; records = []; next = next; room = room }
