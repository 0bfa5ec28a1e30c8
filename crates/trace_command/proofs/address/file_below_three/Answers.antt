use Rattle.std.proofs.Common.{sym}
use Rattle.trace_command.proofs.PathLemmas.{file_in-five}
use Rattle.trace_command.proofs.address.file_below_three.Goals as goal

pub returns-in-Some : goal.returns-in-Some
returns-in-Some c = rw c.cut.ensures.parts (sym (file_in-five c.args.first.now c.args.second.now c.args.third.now c.cut.result.0.now c.cut.result.1 _ c.in-Some.is))
