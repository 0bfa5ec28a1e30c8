use Rattle.trace_buffer.proofs.EachCpu as lemmas
use Rattle.trace_buffer.proofs.laws.reads_of_each_leave_the_same.Goals as goal

pub returns : goal.returns
returns c = lemmas.reads_of_each_leave_the_same c.least_is_read.ensures.ahead
