use Rattle.std.proofs.Common.{ap}
use Rattle.command_log.specs.ChunkSeen.{ChunkSeen}
use Rattle.command_log.proofs.ChunkFacts.{cut_ahead, cut_chunk}
use Rattle.command_log.proofs.chunk.Chunk.discard.Goals as goal

pub invariant_of-self : goal.invariant_of-self
invariant_of-self c = cut_chunk c.self.inside c.self.invariant

pub returns-clause-entries : goal.returns-clause-entries
returns-clause-entries c = ap (λ (seen : ChunkSeen). seen.entries) c.self.view_is

pub returns-clause-ahead : goal.returns-clause-ahead
returns-clause-ahead c = cut_ahead c.self.inside c.self.invariant
