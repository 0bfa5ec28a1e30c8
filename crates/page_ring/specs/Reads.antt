-- What a read does to the pages of a ring.
use Rattle.std.specs.Prelude.{◌≡◌, ℕ, ◌==◌, List, [], ◌∷◌, length, Option, Some, if◌then◌else◌}
use Rattle.page_ring.specs.declared.pages.Pages.{Pages}
use Rattle.page_ring.specs.declared.pages.Taken.{Taken}
use Rattle.page_ring.specs.Pages.{kept_in}
use Rattle.page_ring.specs.PageBuffers.{SameBuffers}
use Rattle.page_ring.specs.Sound.{IsArranged}

-- the reader's page once the pages were swapped where that was needed
abbrev pub reader_after : Option ℕ → Pages → Option ℕ
reader_after reader_page p = if length p.reader.records == 0 then reader_page else Some p.reader.number

-- the reader page has unread records, or nothing in the circle has any
pub record SwapsReader (old new : Pages) : Type 0 where
  pub kept : kept_in new ≡ kept_in old
  pub tail : new.tail ≡ old.tail
  pub empty : new.reader.records ≡ [] → new.circle.items ≡ []
  pub arranged : (pages : ℕ) (reader_page : Option ℕ) → IsArranged pages reader_page old → IsArranged pages (reader_after reader_page new) new
  pub buffers : SameBuffers old new

-- there is nothing to read
pub record NothingUnread (old new : Pages) : Type 0 where
  pub before : kept_in old ≡ []
  pub kept : kept_in new ≡ []
  pub tail_number : new.tail.number ≡ old.tail.number
  pub tail_filled : new.tail.filled ≡ old.tail.filled
  pub tail_next : new.tail.next ≡ old.tail.next
  pub arranged : (pages : ℕ) (reader_page : Option ℕ) → IsArranged pages reader_page old → IsArranged pages reader_page new
  pub buffers : SameBuffers old new

-- the first unread record is taken off its page
pub record TakesFirst (old new : Pages) (taken : Taken) : Type 0 where
  pub bytes : List ℕ
  pub size : taken.size ≡ length bytes
  pub kept : kept_in old ≡ record { number = taken.number; page = taken.page; bytes = bytes } ∷ kept_in new
  pub tail_number : new.tail.number ≡ old.tail.number
  pub tail_filled : new.tail.filled ≡ old.tail.filled
  pub tail_next : new.tail.next ≡ old.tail.next
  pub arranged : (pages : ℕ) (reader_page : Option ℕ) → IsArranged pages reader_page old → IsArranged pages (Some taken.page) new
  pub buffers : SameBuffers old new
