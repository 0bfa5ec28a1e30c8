use Rattle.std.proofs.Common.{◌+◌, ◌*◌, refl, arith, take}
use Rattle.fuse_wire.specs.Parts.{U32}
use Rattle.fuse_wire.proofs.NumberLemmas.{value_32}
use Rattle.fuse_wire.proofs.PartLemmas.{part_at, ignored_at, end_at}
use Rattle.fuse_wire.proofs.Decoding.{decodes, of_another_length, too_few}
use Rattle.fuse_wire.proofs.bodies.batch_forget.Goals as goal

pub returns-then-body-lt-FUSE_BATCH_FORGET_IN : goal.returns-then-body-lt-FUSE_BATCH_FORGET_IN
returns-then-body-lt-FUSE_BATCH_FORGET_IN c = too_few 42 c.args.body.now (λ l. omega arith)

pub returns-then-body-count : goal.returns-then-body-count
returns-then-body-count c =
    let body = c.args.body.now in
    let count = value_32 c.u32_at-count.result (take 4 body) c.u32_at-count.ensures in
    of_another_length 42 body refl (λ e. omega (arith, count))

pub returns : goal.returns
returns c =
    let body = c.args.body.now in
    decodes 42 body _ (record {
      opcode_is = refl;
      own_opcode = tt;
      parts =
          part_at (U32 c.u32_at-count.result) _ body 0 4 4 refl c.u32_at-count.ensures
          (ignored_at _ _ body 4 (8 + 16 * c.u32_at-count.result) (omega arith) (omega arith) (end_at body _ (omega arith)));
    })
