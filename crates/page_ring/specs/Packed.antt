-- How records lie in the bytes of a page: one after the other, each as long as its head tells.
use Rattle.std.specs.Prelude.{◌≡◌, ℕ, zero, suc, ◌+◌, ◌≤◌, List, [], ◌∷◌, length, take, drop}
use Rattle.trace_record.specs.Record.{told_length}
use Rattle.page_ring.specs.StoredPage.{Stored}

-- so many records from the first byte on, where the number of the first is given
abbrev pub records_in : ℕ → ℕ → List ℕ → List Stored
records_in number zero bytes = []
records_in number (suc count) bytes =
    record { number = number; bytes = take (told_length bytes) bytes } ∷ records_in (number + 1) count (drop (told_length bytes) bytes)

-- the bytes are so many whole records, and nothing else
abbrev pub IsPacked : ℕ → List ℕ → Type 0
IsPacked zero bytes = bytes ≡ []
IsPacked (suc count) bytes = (told_length bytes ≤ length bytes) × IsPacked count (drop (told_length bytes) bytes)
