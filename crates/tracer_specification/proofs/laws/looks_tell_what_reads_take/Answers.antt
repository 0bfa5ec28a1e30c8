use Rattle.tracer_specification.proofs.Looks.{cpu_looks_tell_what_reads_take, looks_are_refused_as_reads, looks_tell_what_reads_take}
use Rattle.tracer_specification.proofs.laws.looks_tell_what_reads_take.Goals as goal

pub returns-clause-all : goal.returns-clause-all
returns-clause-all c = looks_tell_what_reads_take c.waiting_is_read.ensures.any c.reads_take_so_many.ensures.any

pub returns-clause-cpu : goal.returns-clause-cpu
returns-clause-cpu c = cpu_looks_tell_what_reads_take c.waiting_is_read.ensures.cpu c.reads_take_so_many.ensures.cpu

pub returns-clause-refused : goal.returns-clause-refused
returns-clause-refused c = looks_are_refused_as_reads
