use Rattle.fuse_serve.proofs.CutLemmas.{cut_one_way}
use Rattle.fuse_serve.proofs.laws.bytes_are_cut_one_way.Goals as goal

pub returns : goal.returns
returns c = cut_one_way
