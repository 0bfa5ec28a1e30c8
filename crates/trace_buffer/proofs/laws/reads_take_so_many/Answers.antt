use Rattle.trace_buffer.proofs.PipeLaws as lemmas
use Rattle.trace_buffer.proofs.laws.reads_take_so_many.Goals as goal

pub returns-clause-any : goal.returns-clause-any
returns-clause-any c = lemmas.reads_take_so_many c.least_is_read.ensures.ahead

pub returns-clause-cpu : goal.returns-clause-cpu
returns-clause-cpu c = lemmas.cpu_reads_take_so_many
