use Rattle.mount_tree.proofs.SerialLemmas.{names-events_after, names-instances_after}
use Rattle.mount_tree.proofs.laws.scenes_are_of_their_pasts.Goals as goal

pub returns-clause-instances : goal.returns-clause-instances
returns-clause-instances c = names-instances_after

pub returns-clause-events : goal.returns-clause-events
returns-clause-events c = names-events_after
