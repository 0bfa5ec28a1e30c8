use Rattle.std.proofs.Common.{◌≡◌, ◌+◌, ◌<◌, ◌^◌, [], ◌++◌, length, subst, sym, arith}
use Rattle.command_log.specs.ChunkSeen.{ChunkSeen}
use Rattle.command_log.specs.PackedEntries.{entries_in, ArePacked}
use Rattle.command_log.specs.ChunkBytes.{seen_chunk}
use Rattle.command_log.proofs.PackedLemmas.{length-entries_in}
use Rattle.command_log.proofs.ChunkFacts.{kept_chunk, kept_seen}
use Rattle.command_log.proofs.chunk.Chunk.keep.Goals as goal

pub overflow_add-self : goal.overflow_add-self
overflow_add-self c =
    let a = c.self.inside in
    let Few : ChunkSeen → Type 0 = λ b. length b.entries + c.args.count < 2 ^ 64 in
    let few = subst Few (sym c.self.view_is) c.requires.few in
    omega (arith, few, length-entries_in a.count)

pub invariant_of-self : goal.invariant_of-self
invariant_of-self c =
    let Packed : ChunkSeen → Type 0 = λ b. ArePacked c.args.count b.ahead in
    kept_chunk c.self.inside c.args.count c.self.invariant (subst Packed (sym c.self.view_is) c.requires.packed)

pub returns : goal.returns
returns c =
    let a = c.self.inside in
    let Kept : ChunkSeen → Type 0 = λ b. seen_chunk (record a { filled = a.end; count = a.count + c.args.count })
    ≡ record b { entries = b.entries ++ entries_in c.args.count b.ahead; ahead = [] } in
    subst Kept c.self.view_is (kept_seen a c.args.count c.self.invariant)
