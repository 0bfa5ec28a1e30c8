use Rattle.history_laws.proofs.RisingReads.{read_times_rise}
use Rattle.history_laws.proofs.SingleReads.{nothing_is_read_twice}
use Rattle.history_laws.proofs.laws.nothing_is_read_twice.Goals as goal

pub returns-clause-once : goal.returns-clause-once
returns-clause-once c =
    nothing_is_read_twice (record {
      all = c.pipe_reads_consume_what_they_show.ensures.all;
      one = c.pipe_reads_consume_what_they_show.ensures.cpu;
      least = c.least_is_read.ensures.least;
    })

pub returns-clause-rise : goal.returns-clause-rise
returns-clause-rise c =
    read_times_rise (record {
      all = c.pipe_reads_consume_what_they_show.ensures.all;
      one = c.pipe_reads_consume_what_they_show.ensures.cpu;
      least = c.least_is_read.ensures.least;
    })
