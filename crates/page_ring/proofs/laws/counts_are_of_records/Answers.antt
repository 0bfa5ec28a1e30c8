use Rattle.page_ring.proofs.Counts.{counts_are_of_records, dropped_are_refused}
use Rattle.page_ring.proofs.laws.counts_are_of_records.Goals as goal

pub returns-clause-records : goal.returns-clause-records
returns-clause-records c = counts_are_of_records

pub returns-clause-dropped : goal.returns-clause-dropped
returns-clause-dropped c = dropped_are_refused
