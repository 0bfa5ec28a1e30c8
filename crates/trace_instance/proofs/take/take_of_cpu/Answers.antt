use Rattle.std.proofs.Common.{Some, refl}
use Rattle.trace_command.specs.declared.command.Reply.TheVariants.{Text}
use Rattle.tracer_specification.specs.FileTexts.{shown_cpu_pipe}
use Rattle.trace_instance.proofs.take.take_of_cpu.Goals as goal

pub returns : goal.returns
returns c = λ g name past is there. (Text (shown_cpu_pipe g name past c.args.cpu (Some c.args.most)), (refl, there, refl))
