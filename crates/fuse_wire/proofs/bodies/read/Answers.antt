use Rattle.std.proofs.Common.{refl, arith}
use Rattle.fuse_wire.specs.Parts.{U32, U64}
use Rattle.fuse_wire.proofs.PartLemmas.{ignored_at, part_at, end_at}
use Rattle.fuse_wire.proofs.Decoding.{decodes, of_another_length}
use Rattle.fuse_wire.proofs.bodies.read.Goals as goal

pub returns-then-body-ne-FUSE_READ_IN : goal.returns-then-body-ne-FUSE_READ_IN
returns-then-body-ne-FUSE_READ_IN c = of_another_length 15 c.args.body.now refl (λ e. omega arith)

pub returns : goal.returns
returns c =
    let body = c.args.body.now in
    decodes 15 body _ (record {
      opcode_is = refl;
      own_opcode = tt;
      parts =
          part_at (U64 c.u64_at.result) _ body 0 8 8 refl c.u64_at.ensures
          (part_at (U64 c.u64_at-2.result) _ body 8 8 16 refl c.u64_at-2.ensures
          (part_at (U32 c.u32_at.result) _ body 16 4 20 refl c.u32_at.ensures
          (part_at (U32 c.u32_at-2.result) _ body 20 4 24 refl c.u32_at-2.ensures
          (ignored_at 8 _ body 24 32 refl (omega arith)
          (part_at (U32 c.u32_at-3.result) _ body 32 4 36 refl c.u32_at-3.ensures
          (ignored_at 4 _ body 36 40 refl (omega arith)
          (end_at body 40 (omega arith))))))));
    })
