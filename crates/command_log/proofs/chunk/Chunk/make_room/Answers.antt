use Rattle.std.proofs.Common.{drop, ap, ◌∙◌}
use Rattle.command_log.specs.ChunkSeen.{ChunkSeen}
use Rattle.command_log.specs.PackedEntries.{entries_in}
use Rattle.command_log.proofs.ChunkFacts.{room_chunk, room_front}
use Rattle.command_log.proofs.chunk.Chunk.make_room.Goals as goal

pub invariant_of-self : goal.invariant_of-self
invariant_of-self c = room_chunk c.self.inside c.make_room.new.bytes c.self.invariant c.make_room.ensures.kept c.make_room.ensures.within

pub returns-clause-entries : goal.returns-clause-entries
returns-clause-entries c =
    let a = c.self.inside in
    ap (entries_in a.count) (room_front a c.make_room.new.bytes c.self.invariant c.make_room.ensures.kept c.make_room.ensures.within)
    ∙ ap (λ (seen : ChunkSeen). seen.entries) c.self.view_is

pub returns-clause-ahead : goal.returns-clause-ahead
returns-clause-ahead c = ap (drop c.self.inside.filled) c.make_room.ensures.kept ∙ ap (λ (seen : ChunkSeen). seen.ahead) c.self.view_is
