use Rattle.std.proofs.Common.{sym}
use Rattle.trace_command.proofs.PathLemmas.{instance_in-three}
use Rattle.trace_command.proofs.address.name_below.Goals as goal

pub returns-in-Some : goal.returns-in-Some
returns-in-Some c =
    rw c.cut.ensures.parts (sym (instance_in-three c.args.first.now c.cut.result.0.now c.cut.result.1 _ c.in-Some.is))
