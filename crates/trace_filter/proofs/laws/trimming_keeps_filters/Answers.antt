use Rattle.trace_filter.proofs.TrimLemmas.{trimmed_spots, trimmed_twice}
use Rattle.trace_filter.proofs.TrimmedFilters.{trimmed_filter, trimmed_passes}
use Rattle.trace_filter.proofs.laws.trimming_keeps_filters.Goals as goal

pub returns-clause-tokens : goal.returns-clause-tokens
returns-clause-tokens c = trimmed_spots

pub returns-clause-filter : goal.returns-clause-filter
returns-clause-filter c = trimmed_filter

pub returns-clause-passes : goal.returns-clause-passes
returns-clause-passes c = trimmed_passes

pub returns-clause-once : goal.returns-clause-once
returns-clause-once c = trimmed_twice
