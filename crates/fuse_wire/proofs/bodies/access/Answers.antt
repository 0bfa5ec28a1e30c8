use Rattle.std.proofs.Common.{refl, arith}
use Rattle.fuse_wire.specs.Parts.{U32}
use Rattle.fuse_wire.proofs.PartLemmas.{ignored_at, part_at, end_at}
use Rattle.fuse_wire.proofs.Decoding.{decodes, of_another_length}
use Rattle.fuse_wire.proofs.bodies.access.Goals as goal

pub returns-then-body-ne-FUSE_ACCESS_IN : goal.returns-then-body-ne-FUSE_ACCESS_IN
returns-then-body-ne-FUSE_ACCESS_IN c = of_another_length 34 c.args.body.now refl (λ e. omega arith)

pub returns : goal.returns
returns c =
    let body = c.args.body.now in
    decodes 34 body _ (record {
      opcode_is = refl;
      own_opcode = tt;
      parts =
          part_at (U32 c.u32_at.result) _ body 0 4 4 refl c.u32_at.ensures
          (ignored_at 4 _ body 4 8 refl (omega arith)
          (end_at body 8 (omega arith)));
    })
