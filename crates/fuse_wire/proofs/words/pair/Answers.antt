use Rattle.fuse_wire.proofs.NumberLemmas.{pair_bytes}
use Rattle.fuse_wire.proofs.words.pair.Goals as goal

pub returns : goal.returns
returns c = pair_bytes c.args.first c.args.second _ _ c.to_le_bytes-a.ensures c.to_le_bytes-b.ensures
