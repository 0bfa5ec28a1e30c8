-- Chunks as contracts see them.
use Rattle.std.specs.Prelude.{ℕ, List}
use Rattle.std.specs.List.{flat_map}
use Rattle.trace_command.specs.declared.command.Entry.{Entry}

-- the entries that count, the bytes after them, and for how many more the chunk has memory
pub record ChunkSeen : Type 0 where
  pub entries : List Entry
  pub ahead : List ℕ
  pub room : ℕ

-- the entries of chunks, in order
abbrev pub entries_of : List ChunkSeen → List Entry
entries_of chunks = flat_map (λ chunk. chunk.entries) chunks
