use Rattle.history_laws.proofs.CpuSums.{shown_are_all_entries, waiting_are_all_entries, head_has_the_sums, cpu_head_has_its_counts, snapshot_head_has_the_sums}
use Rattle.history_laws.proofs.files.the_whole_is_the_sum.Goals as goal

pub returns-clause-shown : goal.returns-clause-shown
returns-clause-shown c = shown_are_all_entries

pub returns-clause-waiting : goal.returns-clause-waiting
returns-clause-waiting c = waiting_are_all_entries

pub returns-clause-head : goal.returns-clause-head
returns-clause-head c = head_has_the_sums

pub returns-clause-cpu : goal.returns-clause-cpu
returns-clause-cpu c = cpu_head_has_its_counts

pub returns-clause-snapshot : goal.returns-clause-snapshot
returns-clause-snapshot c = snapshot_head_has_the_sums
