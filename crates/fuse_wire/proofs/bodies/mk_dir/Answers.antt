use Rattle.std.proofs.Common.{refl}
use Rattle.fuse_wire.proofs.Decoding.{decodes, none_decoded, after_eight, none_after_eight}
use Rattle.fuse_wire.proofs.bodies.mk_dir.Goals as goal

pub returns-in-Some : goal.returns-in-Some
returns-in-Some c =
    decodes 9 c.args.body.now _ (record {
      opcode_is = refl;
      own_opcode = tt;
      parts = after_eight c.args.body.now c.in-Some.name c.name_in.result c.if-body-lt-FUSE_MKDIR_IN.false c.name_in.ensures c.in-Some.is;
    })

pub returns-in-None : goal.returns-in-None
returns-in-None c = none_decoded 9 c.args.body.now (none_after_eight c.args.body.now _ c.name_in.result c.name_in.ensures c.in-None.is)
