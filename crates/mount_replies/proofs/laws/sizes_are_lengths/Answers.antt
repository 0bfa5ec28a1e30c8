use Rattle.mount_replies.proofs.CountedLemmas.{sizes_are_lengths}
use Rattle.mount_replies.proofs.laws.sizes_are_lengths.Goals as goal

pub returns : goal.returns
returns c = sizes_are_lengths
