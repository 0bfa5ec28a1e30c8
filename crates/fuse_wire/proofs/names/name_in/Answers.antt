use Rattle.fuse_wire.proofs.Decoding.{reads_name}
use Rattle.fuse_wire.proofs.names.name_in.Goals as goal

pub returns : goal.returns
returns c =
    rw c.new.ensures (reads_name c.args.bytes.now c.in_ok-last.name.now c.in_ok-last.last.now c.in_ok-last.ensures.cases.0 c.if-last-ne0.false (c.is_name.ensures.0 c.if-not-is_name.false))
