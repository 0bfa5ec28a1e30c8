use Rattle.fuse_wire.proofs.NumberLemmas.{triple_bytes}
use Rattle.fuse_wire.proofs.words.triple.Goals as goal

pub returns : goal.returns
returns c = triple_bytes c.args.first c.args.second c.args.third _ _ _ c.to_le_bytes-a.ensures c.to_le_bytes-b.ensures c.to_le_bytes-c.ensures
