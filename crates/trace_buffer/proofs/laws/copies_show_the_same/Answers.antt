use Rattle.trace_buffer.proofs.CopiesFacts.{copied_count-family, merged_copies-family}
use Rattle.trace_buffer.proofs.laws.copies_show_the_same.Goals as goal

pub returns-clause-count : goal.returns-clause-count
returns-clause-count c = copied_count-family

pub returns-clause-merged : goal.returns-clause-merged
returns-clause-merged c = merged_copies-family
