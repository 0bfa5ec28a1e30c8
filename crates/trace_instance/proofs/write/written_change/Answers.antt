use Rattle.std.proofs.Common.{is_some}
use Rattle.trace_instance.proofs.write.written_change.Goals as goal

pub returns-in-OfCpu-clause-change : goal.returns-in-OfCpu-clause-change
returns-in-OfCpu-clause-change c = λ g name past number events distinct stands there.
    rw c.in-OfCpu.is (c.change_of_cpu.ensures.change g name past c.args.written.text.now (rw c.in-OfCpu.is at there))

pub returns-in-OfEvent-clause-takes_none : goal.returns-in-OfEvent-clause-takes_none
returns-in-OfEvent-clause-takes_none c = λ none.
    c.change_of_event.ensures.takes_none (is_some c.args.instance.now.sides.spare) (rw c.in-OfEvent.is at none)
