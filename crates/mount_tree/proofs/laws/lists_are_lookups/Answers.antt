use Rattle.mount_tree.proofs.EntryLaws.{children_distinct, children_found}
use Rattle.mount_tree.proofs.laws.lists_are_lookups.Goals as goal

pub returns : goal.returns
returns c = λ scene folder sound. (children_distinct scene folder sound, children_found scene folder sound)
