use Rattle.trace_filter.proofs.FilterLemmas.{filter_is_answered, refusal_is_answered, filter_or_refused, never_both, one_refusal}
use Rattle.trace_filter.proofs.TreeFilters.{filter_is_its_tree}
use Rattle.trace_filter.proofs.laws.filters_are_as_written.Goals as goal

pub returns-clause-filter : goal.returns-clause-filter
returns-clause-filter c = λ definition text. filter_is_answered definition text

pub returns-clause-refused : goal.returns-clause-refused
returns-clause-refused c = λ definition text fault. refusal_is_answered definition text fault

pub returns-clause-either : goal.returns-clause-either
returns-clause-either c = λ definition text. filter_or_refused definition text

pub returns-clause-not_both : goal.returns-clause-not_both
returns-clause-not_both c = λ definition text fault. never_both definition text fault

pub returns-clause-unique : goal.returns-clause-unique
returns-clause-unique c = λ definition text one other. one_refusal definition text one other

pub returns-clause-tree : goal.returns-clause-tree
returns-clause-tree c = λ definition text. filter_is_its_tree definition text
