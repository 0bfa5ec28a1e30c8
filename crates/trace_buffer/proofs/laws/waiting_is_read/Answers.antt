use Rattle.trace_buffer.proofs.Waiting as lemmas
use Rattle.trace_buffer.proofs.laws.waiting_is_read.Goals as goal

pub returns-clause-any : goal.returns-clause-any
returns-clause-any c = lemmas.waiting_is_read c.least_is_read.ensures.ahead

pub returns-clause-cpu : goal.returns-clause-cpu
returns-clause-cpu c = lemmas.cpu_waiting_is_read
