use Rattle.trace_buffer.proofs.PipeLaws as lemmas
use Rattle.trace_buffer.proofs.laws.reads_consume_what_they_take.Goals as goal

pub returns-clause-any : goal.returns-clause-any
returns-clause-any c = lemmas.reads_consume_what_they_take c.least_is_read.ensures.ahead

pub returns-clause-cpu : goal.returns-clause-cpu
returns-clause-cpu c = lemmas.cpu_reads_consume_what_they_take c.least_is_read.ensures.rest

pub returns-clause-others : goal.returns-clause-others
returns-clause-others c = lemmas.other_cpus_stay
