use Rattle.trace_buffer.proofs.MergeLaws as lemmas
use Rattle.trace_buffer.proofs.laws.merged_is_in_time_order.Goals as goal

pub returns-clause-all : goal.returns-clause-all
returns-clause-all c = lemmas.all_are_by_cpu

pub returns-clause-merged : goal.returns-clause-merged
returns-clause-merged c = lemmas.merged_is_in_time_order

pub returns-clause-only : goal.returns-clause-only
returns-clause-only c = lemmas.one_time_order
