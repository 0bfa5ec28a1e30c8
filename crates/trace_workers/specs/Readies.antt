-- Commands that are ready to be asked.
use Rattle.trace_command.specs.Commands.{Command}
use Rattle.trace_command.specs.declared.command.CommandOf.TheVariants.{Emit}
use Rattle.trace_workers.specs.declared.asked.Ready.TheVariants as readies
use Rattle.trace_workers.specs.declared.asked.Ready.{Ready}

-- the command that it is
abbrev pub command_of : Ready → Command
command_of (readies.Command command) = command
command_of (readies.Emission event cpu pid pairs) = Emit event.now cpu pid pairs.items
