-- What a write does to the pages of a ring.
use Rattle.std.specs.Prelude.{◌≡◌, ℕ, ◌+◌, List, [], ◌∷◌, ◌++◌, length, sum_by, Option, if◌then◌else◌}
use Rattle.page_ring.specs.declared.pages.Pages.{Pages}
use Rattle.page_ring.specs.Account.{is_reader_page}
use Rattle.page_ring.specs.Pages.{cleared, overrun_head}
use Rattle.page_ring.specs.PageReads.{AppendsTo}
use Rattle.page_ring.specs.PageBuffers.{SameBuffers}

-- the tail is on the next page, which has no records; the old tail page is the reader page or joins the circle, less the head page
-- if that was in the way
pub record MovesTail (pages : ℕ) (reader_page : Option ℕ) (old new : Pages) : Type 0 where
  pub tail_number : new.tail.number ≡ old.tail.number + 1
  pub tail_filled : new.tail.filled ≡ 0
  pub tail_records : new.tail.records ≡ []
  pub tail_next : new.tail.next ≡ old.tail.next
  pub reader : new.reader ≡ (if is_reader_page reader_page old.tail.number then old.tail else old.reader)
  pub circle : new.circle.items ≡ cleared pages old.tail.number old.circle.items ++ (if is_reader_page reader_page old.tail.number then [] else old.tail ∷ [])
  pub buffers : SameBuffers old new

-- the same where the tail page isn't the reader page
pub record MovesInCircle (pages : ℕ) (old new : Pages) : Type 0 where
  pub tail_number : new.tail.number ≡ old.tail.number + 1
  pub tail_filled : new.tail.filled ≡ 0
  pub tail_records : new.tail.records ≡ []
  pub tail_next : new.tail.next ≡ old.tail.next
  pub reader : new.reader ≡ old.reader
  pub circle : new.circle.items ≡ cleared pages old.tail.number old.circle.items ++ old.tail ∷ []
  pub buffers : SameBuffers old new

-- so many records and bytes go with the head page, if it is in the way
pub record LosesHead (pages : ℕ) (old : Pages) (lost lost_bytes : ℕ) : Type 0 where
  pub records : lost ≡ sum_by (λ p. length p.records) (overrun_head pages old.tail.number old.circle.items)
  pub bytes : lost_bytes ≡ sum_by (λ p. p.filled) (overrun_head pages old.tail.number old.circle.items)

-- a record is written on the tail page
pub record Appends (old new : Pages) (bytes : List ℕ) : Type 0 where
  pub tail : AppendsTo old.tail new.tail bytes
  pub others : new ≡ record old { tail = new.tail }
