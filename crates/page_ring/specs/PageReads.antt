-- What a put and a read do to a page.
use Rattle.std.specs.Prelude.{◌≡◌, ℕ, ◌+◌, ◌≤◌, List, [], ◌∷◌, ◌++◌, length}
use Rattle.page_ring.specs.StoredPage.{Stored, StoredPage}
use Rattle.page_ring.specs.declared.page.StoredRecord.{StoredRecord}

-- a record that is lent where it lies
abbrev pub lent : StoredRecord → Stored
lent r = record { number = r.number; bytes = r.bytes.now }

-- a record is written after the others
pub record AppendsTo (old new : StoredPage) (bytes : List ℕ) : Type 0 where
  pub number : new.number ≡ old.number
  pub filled : new.filled ≡ old.filled + length bytes
  pub records : new.records ≡ old.records ++ record { number = old.next; bytes = bytes } ∷ []
  pub next : new.next ≡ old.next + 1
  pub room : old.room ≤ new.room

-- the first unread record, with this number and so many bytes, is read
pub record TakesFrom (old new : StoredPage) (number count : ℕ) : Type 0 where
  pub bytes : List ℕ
  pub size : count ≡ length bytes
  pub taken : old ≡ record new { records = record { number = number; bytes = bytes } ∷ new.records }
