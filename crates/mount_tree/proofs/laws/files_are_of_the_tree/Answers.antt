use Rattle.mount_tree.proofs.FileLemmas.{of_tree}
use Rattle.mount_tree.proofs.laws.files_are_of_the_tree.Goals as goal

pub returns : goal.returns
returns c = of_tree
