use Rattle.mount_replies.proofs.ErrorOwners.{errors_are_of_instances}
use Rattle.mount_replies.proofs.ShownLemmas.{removed_files_are_missing}
use Rattle.mount_replies.proofs.laws.removed_instances_are_gone.Goals as goal

pub returns-clause-files : goal.returns-clause-files
returns-clause-files c = removed_files_are_missing

pub returns-clause-errors : goal.returns-clause-errors
returns-clause-errors c = errors_are_of_instances
