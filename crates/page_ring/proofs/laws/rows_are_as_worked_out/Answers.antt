use Rattle.std.proofs.Common.{refl}
use Rattle.trace_record.specs.Record.{timestamp}
use Rattle.page_ring.specs.Cut.{cut}
use Rattle.page_ring.specs.Account.{account, stats_of, readings_of, put_answer}
use Rattle.page_ring.proofs.laws.rows_are_as_worked_out.Goals as goal

pub returns-clause-five : goal.returns-clause-five
unfolding stats_of timestamp account cut
returns-clause-five c = refl

pub returns-clause-seven : goal.returns-clause-seven
unfolding stats_of timestamp account cut
returns-clause-seven c = refl

pub returns-clause-overrun_stats : goal.returns-clause-overrun_stats
unfolding stats_of timestamp account cut
returns-clause-overrun_stats c = refl

pub returns-clause-overrun_reads : goal.returns-clause-overrun_reads
unfolding readings_of account cut
returns-clause-overrun_reads c = refl

pub returns-clause-read_stats : goal.returns-clause-read_stats
unfolding stats_of timestamp account cut
returns-clause-read_stats c = refl

pub returns-clause-writer : goal.returns-clause-writer
unfolding stats_of timestamp account cut
returns-clause-writer c = refl

pub returns-clause-writer_without_overwriting : goal.returns-clause-writer_without_overwriting
unfolding stats_of timestamp account cut
returns-clause-writer_without_overwriting c = refl

pub returns-clause-dropped : goal.returns-clause-dropped
unfolding put_answer account cut
returns-clause-dropped c = refl

pub returns-clause-kept : goal.returns-clause-kept
unfolding put_answer account cut
returns-clause-kept c = refl

pub returns-clause-losing : goal.returns-clause-losing
unfolding put_answer account cut
returns-clause-losing c = refl
