use Rattle.mount_tree.proofs.NumberLemmas.{same_number}
use Rattle.mount_tree.proofs.laws.numbers_name_nodes.Goals as goal

pub returns : goal.returns
returns c = same_number
