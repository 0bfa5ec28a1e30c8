use Rattle.std.proofs.Common.{refl, arith}
use Rattle.fuse_wire.specs.Parts.{U32, U64}
use Rattle.fuse_wire.proofs.PartLemmas.{ignored_at, part_at, end_at}
use Rattle.fuse_wire.proofs.Decoding.{decodes, of_another_length}
use Rattle.fuse_wire.proofs.bodies.set_attr.Goals as goal

pub returns-then-body-ne-FUSE_SETATTR_IN : goal.returns-then-body-ne-FUSE_SETATTR_IN
returns-then-body-ne-FUSE_SETATTR_IN c = of_another_length 4 c.args.body.now refl (λ e. omega arith)

pub returns : goal.returns
returns c =
    let body = c.args.body.now in
    decodes 4 body _ (record {
      opcode_is = refl;
      own_opcode = tt;
      parts =
          part_at (U32 c.u32_at.result) _ body 0 4 4 refl c.u32_at.ensures
          (ignored_at 12 _ body 4 16 refl (omega arith)
          (part_at (U64 c.u64_at.result) _ body 16 8 24 refl c.u64_at.ensures
          (ignored_at 64 _ body 24 88 refl (omega arith)
          (end_at body 88 (omega arith)))));
    })
