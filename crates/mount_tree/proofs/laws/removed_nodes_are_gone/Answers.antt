use Rattle.mount_tree.proofs.SerialLemmas.{removed-gone}
use Rattle.mount_tree.proofs.laws.removed_nodes_are_gone.Goals as goal

pub returns : goal.returns
returns c = removed-gone
