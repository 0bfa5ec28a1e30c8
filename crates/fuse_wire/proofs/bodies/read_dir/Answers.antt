use Rattle.std.proofs.Common.{refl, arith}
use Rattle.fuse_wire.specs.Parts.{U32, U64}
use Rattle.fuse_wire.proofs.PartLemmas.{ignored_at, part_at, end_at}
use Rattle.fuse_wire.proofs.Decoding.{decodes, of_another_length}
use Rattle.fuse_wire.proofs.bodies.read_dir.Goals as goal

pub returns-then-body-ne-FUSE_READ_IN : goal.returns-then-body-ne-FUSE_READ_IN
returns-then-body-ne-FUSE_READ_IN c = of_another_length 28 c.args.body.now refl (λ e. omega arith)

pub returns : goal.returns
returns c =
    let body = c.args.body.now in
    decodes 28 body _ (record {
      opcode_is = refl;
      own_opcode = tt;
      parts =
          part_at (U64 c.u64_at.result) _ body 0 8 8 refl c.u64_at.ensures
          (part_at (U64 c.u64_at-2.result) _ body 8 8 16 refl c.u64_at-2.ensures
          (part_at (U32 c.u32_at.result) _ body 16 4 20 refl c.u32_at.ensures
          (ignored_at 20 _ body 20 40 refl (omega arith)
          (end_at body 40 (omega arith)))));
    })
