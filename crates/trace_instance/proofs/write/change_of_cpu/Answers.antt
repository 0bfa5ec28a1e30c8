use Rattle.std.proofs.Common.{true, false}
use Rattle.trace_instance.proofs.Writes.{clears-cpu}
use Rattle.trace_instance.proofs.write.change_of_cpu.Goals as goal

pub returns-then-append-clause-change : goal.returns-then-append-clause-change
returns-then-append-clause-change c = λ g name past text inside.
    rw (c.in-Trace.is, c.if-append.true) (clears-cpu g name past text c.args.cpu inside true)

pub returns-else-append-clause-change : goal.returns-else-append-clause-change
returns-else-append-clause-change c = λ g name past text inside.
    rw (c.in-Trace.is, c.if-append.false) (clears-cpu g name past text c.args.cpu inside false)
