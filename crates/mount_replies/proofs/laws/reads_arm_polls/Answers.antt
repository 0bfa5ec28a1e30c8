use Rattle.mount_replies.proofs.ArmedLemmas.{parked_reads_arm_polls, reads_arm_polls}
use Rattle.mount_replies.proofs.laws.reads_arm_polls.Goals as goal

pub returns-clause-asked : goal.returns-clause-asked
returns-clause-asked c = reads_arm_polls

pub returns-clause-parked : goal.returns-clause-parked
returns-clause-parked c = parked_reads_arm_polls
