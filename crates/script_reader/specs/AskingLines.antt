-- Lines that ask for a command.
use Rattle.std.specs.Prelude.{ℕ, List, [], Option, Some, None, Result, Ok, unwrap_or}
use Rattle.trace_command.specs.Commands.{Command}
use Rattle.trace_command.specs.declared.command.CommandOf.TheVariants.{Mkdir}
use Rattle.trace_script.specs.Lines.{line_of}
use Rattle.trace_script.specs.declared.fault.ScriptFault.{ScriptFault}
use Rattle.trace_script.specs.declared.line.Line.{Line}
use Rattle.trace_script.specs.declared.line.Line.TheVariants.{Ask}

-- the command that is asked for, if one is
abbrev pub command_asked : Result Line ScriptFault → Option Command
command_asked (Ok (Ask command)) = Some command
command_asked _ = None

-- the command that a line asks for; of one that asks for none, any
abbrev pub command_in : List ℕ → Command
command_in line = unwrap_or (command_asked (line_of line)) (Mkdir [])
