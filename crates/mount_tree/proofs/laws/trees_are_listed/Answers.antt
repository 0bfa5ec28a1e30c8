use Rattle.mount_tree.proofs.WalkLemmas.{tree_lines}
use Rattle.mount_tree.proofs.laws.trees_are_listed.Goals as goal

pub returns : goal.returns
returns c = tree_lines
