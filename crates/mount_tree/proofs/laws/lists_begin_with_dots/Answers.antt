use Rattle.mount_tree.proofs.EntryLaws.{list_distinct}
use Rattle.mount_tree.proofs.ParentLemmas.{children_follow, dots_first}
use Rattle.mount_tree.proofs.laws.lists_begin_with_dots.Goals as goal

pub returns-clause-first : goal.returns-clause-first
returns-clause-first c = dots_first

pub returns-clause-rest : goal.returns-clause-rest
returns-clause-rest c = children_follow

pub returns-clause-once : goal.returns-clause-once
returns-clause-once c = list_distinct
