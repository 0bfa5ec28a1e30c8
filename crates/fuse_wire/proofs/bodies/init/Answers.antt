use Rattle.std.proofs.Common.{refl, arith, drop}
use Rattle.fuse_wire.specs.Parts.{U32, Anything}
use Rattle.fuse_wire.proofs.PartLemmas.{part_at, alone}
use Rattle.fuse_wire.proofs.Decoding.{decodes, too_few}
use Rattle.fuse_wire.proofs.bodies.init.Goals as goal

pub returns-then-body-lt-FUSE_INIT_IN : goal.returns-then-body-lt-FUSE_INIT_IN
returns-then-body-lt-FUSE_INIT_IN c = too_few 26 c.args.body.now (λ l. omega arith)

pub returns : goal.returns
returns c =
    let body = c.args.body.now in
    decodes 26 body _ (record {
      opcode_is = refl;
      own_opcode = tt;
      parts =
          part_at (U32 c.u32_at.result) _ body 0 4 4 refl c.u32_at.ensures
          (part_at (U32 c.u32_at-2.result) _ body 4 4 8 refl c.u32_at-2.ensures
          (part_at (U32 c.u32_at-3.result) _ body 8 4 12 refl c.u32_at-3.ensures
          (part_at (U32 c.u32_at-4.result) _ body 12 4 16 refl c.u32_at-4.ensures
          (alone Anything (drop 16 body) tt))));
    })
