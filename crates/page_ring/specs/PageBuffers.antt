-- The buffers of a ring: P + 1 of them for a circle of P pages, each with memory for a page's bytes.
use Rattle.std.specs.Prelude.{◌≡◌, ℕ, ◌+◌, ◌≤◌, []}
use Rattle.std.specs.VecDeque.{deque_len, deque_capacity}
use Rattle.std.specs.List.{AllByRecursion}
use Rattle.page_ring.specs.StoredPage.{StoredPage, empty_page}
use Rattle.page_ring.specs.Pages.{bytes_on, cleared}
use Rattle.page_ring.specs.declared.pages.Pages.{Pages}

-- beside the reader page and the tail page there are the others of the circle, and all have a place in it and among the spare ones
pub record HasBuffers (pages : ℕ) (p : Pages) : Type 0 where
  pub count : deque_len p.circle + deque_len p.spare + 1 ≡ pages
  pub circle_room : pages ≤ deque_capacity p.circle
  pub spare_room : pages ≤ deque_capacity p.spare

-- a page has memory for so many bytes, no more of them are filled, and its unread records lie within
pub record HasRoom (page_bytes : ℕ) (page : StoredPage) : Type 0 where
  pub room : page_bytes ≤ page.room
  pub filled : page.filled ≤ page_bytes
  pub unread : bytes_on page ≤ page.filled

-- so does each
pub record IsRoomy (page_bytes : ℕ) (p : Pages) : Type 0 where
  pub reader : HasRoom page_bytes p.reader
  pub circle : AllByRecursion (HasRoom page_bytes) p.circle.items
  pub tail : HasRoom page_bytes p.tail
  pub spare : AllByRecursion (HasRoom page_bytes) p.spare.items

-- no buffer is gone, and none has become smaller or fuller than it may be
pub record SameBuffers (old new : Pages) : Type 0 where
  pub count : (pages : ℕ) → HasBuffers pages old → HasBuffers pages new
  pub room : (page_bytes : ℕ) → IsRoomy page_bytes old → IsRoomy page_bytes new

-- pages with no records, for a circle of so many
pub record IsNew (pages page_bytes : ℕ) (p : Pages) : Type 0 where
  pub reader : p.reader ≡ empty_page 0 0 page_bytes
  pub circle : p.circle.items ≡ []
  pub tail : p.tail ≡ empty_page 0 0 page_bytes
  pub buffers : HasBuffers pages p
  pub room : IsRoomy page_bytes p

-- all records are dropped
pub record IsCleared (old new : Pages) : Type 0 where
  pub reader : new.reader ≡ empty_page 0 0 old.reader.room
  pub circle : new.circle.items ≡ []
  pub tail : new.tail ≡ empty_page 0 0 old.tail.room
  pub buffers : SameBuffers old new

-- a page is taken out that can be written: the head page if it is in the way, or else a spare one
pub record FreesPage (pages : ℕ) (old new : Pages) (page : StoredPage) : Type 0 where
  pub circle : new.circle.items ≡ cleared pages old.tail.number old.circle.items
  pub reader : new.reader ≡ old.reader
  pub tail : new.tail ≡ old.tail
  pub count : deque_len new.circle + deque_len new.spare + 2 ≡ pages
  pub circle_room : pages ≤ deque_capacity new.circle
  pub spare_room : pages ≤ deque_capacity new.spare
  pub room : (page_bytes : ℕ) → IsRoomy page_bytes old → HasRoom page_bytes page × IsRoomy page_bytes new
