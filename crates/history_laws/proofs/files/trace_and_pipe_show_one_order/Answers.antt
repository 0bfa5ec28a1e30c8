use Rattle.history_laws.proofs.PipeOrder.{kept_times_rise, orders_are_one, pipes_read_the_trace, trace_and_pipe_show_one_order, each_cpu_keeps_its_order}
use Rattle.history_laws.proofs.files.trace_and_pipe_show_one_order.Goals as goal

pub returns-clause-rise : goal.returns-clause-rise
returns-clause-rise c =
    kept_times_rise (record {
      all = c.pipe_reads_consume_what_they_show.ensures.all;
      one = c.pipe_reads_consume_what_they_show.ensures.cpu;
      least = c.least_is_read.ensures.least;
    })

pub returns-clause-reads : goal.returns-clause-reads
returns-clause-reads c =
    pipes_read_the_trace (record {
      all = c.pipe_reads_consume_what_they_show.ensures.all;
      one = c.pipe_reads_consume_what_they_show.ensures.cpu;
      least = c.least_is_read.ensures.least;
    }) c.least_is_read.ensures.ahead

pub returns-clause-texts : goal.returns-clause-texts
returns-clause-texts c =
    trace_and_pipe_show_one_order (record {
      all = c.pipe_reads_consume_what_they_show.ensures.all;
      one = c.pipe_reads_consume_what_they_show.ensures.cpu;
      least = c.least_is_read.ensures.least;
    }) c.least_is_read.ensures.ahead

pub returns-clause-cpus : goal.returns-clause-cpus
returns-clause-cpus c =
    each_cpu_keeps_its_order (record {
      all = c.pipe_reads_consume_what_they_show.ensures.all;
      one = c.pipe_reads_consume_what_they_show.ensures.cpu;
      least = c.least_is_read.ensures.least;
    }) c.least_is_read.ensures.ahead

pub returns-clause-orders : goal.returns-clause-orders
returns-clause-orders c = orders_are_one c.least_is_read.ensures.ahead
