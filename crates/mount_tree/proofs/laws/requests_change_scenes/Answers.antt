use Rattle.mount_tree.proofs.AfterRequests.{declaring, leaving, making, removing}
use Rattle.mount_tree.proofs.laws.requests_change_scenes.Goals as goal

pub returns-clause-made : goal.returns-clause-made
returns-clause-made c = making

pub returns-clause-removed : goal.returns-clause-removed
returns-clause-removed c = removing

pub returns-clause-declared : goal.returns-clause-declared
returns-clause-declared c = declaring

pub returns-clause-others : goal.returns-clause-others
returns-clause-others c = leaving
