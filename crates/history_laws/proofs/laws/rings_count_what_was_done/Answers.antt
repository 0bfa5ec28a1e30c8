use Rattle.history_laws.proofs.RingSteps.{AreConsumed}
use Rattle.history_laws.proofs.RingTotals.{rings_count_emissions, read_is_what_pipes_showed, rings_are_accounted_for}
use Rattle.history_laws.proofs.laws.rings_count_what_was_done.Goals as goal

pub returns-clause-recorded : goal.returns-clause-recorded
returns-clause-recorded c =
    rings_count_emissions (record {
      all = c.pipe_reads_consume_what_they_show.ensures.all;
      one = c.pipe_reads_consume_what_they_show.ensures.cpu;
      least = c.least_is_read.ensures.least;
    }) c.offered_is_puts.ensures c.counts_are_of_records.ensures.records

pub returns-clause-read : goal.returns-clause-read
returns-clause-read c =
    read_is_what_pipes_showed (record {
      all = c.pipe_reads_consume_what_they_show.ensures.all;
      one = c.pipe_reads_consume_what_they_show.ensures.cpu;
      least = c.least_is_read.ensures.least;
    })

pub returns-clause-all : goal.returns-clause-all
returns-clause-all c =
    let consumed : AreConsumed = record {
      all = c.pipe_reads_consume_what_they_show.ensures.all;
      one = c.pipe_reads_consume_what_they_show.ensures.cpu;
      least = c.least_is_read.ensures.least;
    } in
    rings_are_accounted_for (rings_count_emissions consumed c.offered_is_puts.ensures c.counts_are_of_records.ensures.records)
    (read_is_what_pipes_showed consumed)
