use Rattle.mount_tree.proofs.ParentLemmas.{found_in, parents_there, steps_end}
use Rattle.mount_tree.proofs.laws.parents_lead_up.Goals as goal

pub returns-clause-back : goal.returns-clause-back
returns-clause-back c = found_in

pub returns-clause-there : goal.returns-clause-there
returns-clause-there c = parents_there

pub returns-clause-ends : goal.returns-clause-ends
returns-clause-ends c = steps_end
