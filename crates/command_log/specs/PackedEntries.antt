-- How entries lie in bytes: one after the other.
use Rattle.std.specs.Prelude.{◌≡◌, ℕ, zero, suc, List, [], ◌∷◌, ◌++◌}
use Rattle.trace_command.specs.declared.command.Entry.{Entry}
use Rattle.command_log.specs.EntryDecoding.{entry_in, after_entry}

-- so many entries from the first byte on
abbrev pub entries_in : ℕ → List ℕ → List Entry
entries_in zero bytes = []
entries_in (suc count) bytes = entry_in bytes ∷ entries_in count (after_entry bytes)

-- the bytes begin with a whole entry: whatever more bytes come after them, the same one is read
pub record BeginsWithEntry (bytes : List ℕ) : Type 0 where
  pub entry : (more : List ℕ) → entry_in (bytes ++ more) ≡ entry_in bytes
  pub after : (more : List ℕ) → after_entry (bytes ++ more) ≡ after_entry bytes ++ more

-- the bytes are so many whole entries, and nothing else
abbrev pub ArePacked : ℕ → List ℕ → Type 0
ArePacked zero bytes = bytes ≡ []
ArePacked (suc count) bytes = BeginsWithEntry bytes × ArePacked count (after_entry bytes)

-- the bytes are this entry, and nothing else
pub record IsOneEntry (bytes : List ℕ) (entry : Entry) : Type 0 where
  pub packed : ArePacked 1 bytes
  pub same : entries_in 1 bytes ≡ entry ∷ []
