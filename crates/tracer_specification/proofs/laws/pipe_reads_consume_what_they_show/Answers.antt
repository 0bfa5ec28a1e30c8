use Rattle.tracer_specification.proofs.PipeReads.{pipe_reads_consume_what_they_show, whole_pipe_reads_consume_what_they_show}
use Rattle.tracer_specification.proofs.laws.pipe_reads_consume_what_they_show.Goals as goal

pub returns-clause-cpu : goal.returns-clause-cpu
returns-clause-cpu c =
    pipe_reads_consume_what_they_show c.reads_consume_what_they_take.ensures.cpu c.reads_consume_what_they_take.ensures.others

pub returns-clause-all : goal.returns-clause-all
returns-clause-all c = whole_pipe_reads_consume_what_they_show c.reads_consume_what_they_take.ensures.any
