use Rattle.fuse_wire.specs.Parts.{number_bytes}
use Rattle.fuse_wire.proofs.words.word.Goals as goal

pub returns : goal.returns
unfolding number_bytes
returns c = c.to_le_bytes.ensures
