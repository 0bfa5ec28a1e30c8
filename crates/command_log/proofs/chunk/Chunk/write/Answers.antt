use Rattle.std.proofs.Common.{refl, ap, ◌∙◌, arith}
use Rattle.std.specs.Vec.{with_items}
use Rattle.command_log.specs.ChunkSeen.{ChunkSeen}
use Rattle.command_log.specs.PackedEntries.{entries_in}
use Rattle.command_log.proofs.ChunkFacts.{front_stays, longer_chunk, put_more, put_fits}
use Rattle.command_log.proofs.chunk.Chunk.write.Goals as goal

pub invariant_of-self : goal.invariant_of-self
invariant_of-self c =
    let a = c.self.inside in
    let put = c.put_at-self-inside in
    longer_chunk a (with_items a.bytes put.new.out) put.result c.args.bytes.now c.self.invariant
    (put_more a a.bytes _ put.new.out c.self.invariant refl c.deref_mut.ensures.value put.ensures.length put.result c.args.bytes.now put.ensures.bytes)
    (put_fits a a.bytes _ put.new.out c.self.invariant refl c.deref_mut.ensures.value put.ensures.length put.result (omega arith))

pub returns-then-len-self-clause-entries : goal.returns-then-len-self-clause-entries
returns-then-len-self-clause-entries c =
    let a = c.self.inside in
    let put = c.put_at-self-inside in
    ap (entries_in a.count)
    (front_stays a (with_items a.bytes put.new.out) put.result c.args.bytes.now c.self.invariant
    (put_more a a.bytes _ put.new.out c.self.invariant refl c.deref_mut.ensures.value put.ensures.length put.result c.args.bytes.now put.ensures.bytes)
    (put_fits a a.bytes _ put.new.out c.self.invariant refl c.deref_mut.ensures.value put.ensures.length put.result (omega arith)))
    ∙ ap (λ (seen : ChunkSeen). seen.entries) c.self.view_is
