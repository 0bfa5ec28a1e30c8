use Rattle.std.proofs.Common.{refl, arith}
use Rattle.fuse_wire.specs.Parts.{U64}
use Rattle.fuse_wire.proofs.PartLemmas.{ignored_at, part_at, end_at}
use Rattle.fuse_wire.proofs.Decoding.{decodes, of_another_length}
use Rattle.fuse_wire.proofs.bodies.release.Goals as goal

pub returns-then-body-ne-FUSE_RELEASE_IN : goal.returns-then-body-ne-FUSE_RELEASE_IN
returns-then-body-ne-FUSE_RELEASE_IN c = of_another_length 18 c.args.body.now refl (λ e. omega arith)

pub returns : goal.returns
returns c =
    let body = c.args.body.now in
    decodes 18 body _ (record {
      opcode_is = refl;
      own_opcode = tt;
      parts =
          part_at (U64 c.u64_at.result) _ body 0 8 8 refl c.u64_at.ensures
          (ignored_at 16 _ body 8 24 refl (omega arith)
          (end_at body 24 (omega arith)));
    })
