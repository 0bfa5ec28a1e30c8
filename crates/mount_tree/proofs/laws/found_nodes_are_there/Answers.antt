use Rattle.mount_tree.proofs.ReachLemmas.{reached}
use Rattle.mount_tree.proofs.ThereLemmas.{found_there}
use Rattle.mount_tree.proofs.laws.found_nodes_are_there.Goals as goal

pub returns-clause-there : goal.returns-clause-there
returns-clause-there c = found_there

pub returns-clause-found : goal.returns-clause-found
returns-clause-found c = reached
