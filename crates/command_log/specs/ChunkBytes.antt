-- How a chunk's fields show, and what is true of them at every moment.
use Rattle.std.specs.Prelude.{◌≤◌, ◌-◌, length, take, drop, vec_capacity}
use Rattle.command_log.specs.PackedEntries.{entries_in, ArePacked}
use Rattle.command_log.specs.ChunkSeen.{ChunkSeen}
use Rattle.command_log.specs.declared.chunk.Chunk.TheInside.{Inside}

abbrev pub seen_chunk : Inside → ChunkSeen
seen_chunk chunk = record {
  entries = entries_in chunk.count (take chunk.filled chunk.bytes.items);
  ahead = drop chunk.filled (take chunk.end chunk.bytes.items);
  room = vec_capacity chunk.bytes - chunk.end;
}

-- up to the mark lie the entries that count, and from there to the end what is written ahead
pub record IsChunk (chunk : Inside) : Type 0 where
  pub mark : chunk.filled ≤ chunk.end
  pub room : chunk.end ≤ length chunk.bytes.items
  pub packed : ArePacked chunk.count (take chunk.filled chunk.bytes.items)
