use Rattle.mount_tree.proofs.JoinLemmas.{found_joined}
use Rattle.mount_tree.proofs.laws.paths_are_joined.Goals as goal

pub returns : goal.returns
returns c = found_joined
