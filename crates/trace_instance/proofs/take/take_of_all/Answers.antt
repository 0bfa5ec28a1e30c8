use Rattle.std.proofs.Common.{Some, refl}
use Rattle.trace_command.specs.declared.command.Reply.TheVariants.{Text}
use Rattle.tracer_specification.specs.FileTexts.{shown_pipe}
use Rattle.trace_instance.proofs.take.take_of_all.Goals as goal

pub returns : goal.returns
returns c = λ g name past is. (Text (shown_pipe g name past (Some c.args.most)), (refl, tt, c.in_ok-next_counts.ensures.counts g name past is))
