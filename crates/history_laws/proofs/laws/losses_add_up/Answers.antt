use Rattle.history_laws.proofs.RingTotals.{losses_are_told, lost_adds_up}
use Rattle.history_laws.proofs.laws.losses_add_up.Goals as goal

pub returns-clause-told : goal.returns-clause-told
returns-clause-told c =
    losses_are_told (record {
      all = c.pipe_reads_consume_what_they_show.ensures.all;
      one = c.pipe_reads_consume_what_they_show.ensures.cpu;
      least = c.least_is_read.ensures.least;
    }) c.counts_are_of_records.ensures.records

pub returns-clause-all : goal.returns-clause-all
returns-clause-all c =
    lost_adds_up (record {
      all = c.pipe_reads_consume_what_they_show.ensures.all;
      one = c.pipe_reads_consume_what_they_show.ensures.cpu;
      least = c.least_is_read.ensures.least;
    }) c.counts_are_of_records.ensures.records
