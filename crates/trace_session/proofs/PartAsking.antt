-- A line of a part, read by its thread.
use Rattle.std.proofs.Common.{◌≡◌, ℕ, List, [], IsSome, unwrap_or, Result, Ok, Err, refl, sym, ◌∙◌}
use Rattle.trace_command.specs.Commands.{Command}
use Rattle.trace_command.specs.declared.command.CommandOf.TheVariants.{Mkdir}
use Rattle.trace_script.specs.Lines.{line_of}
use Rattle.script_reader.specs.AskingLines.{command_asked, command_in}
use Rattle.trace_script.specs.declared.fault.ScriptFault.{ScriptFault}
use Rattle.trace_script.specs.declared.line.Line.{Line}
use Rattle.trace_script.specs.declared.line.Line.TheVariants.{Blank, Ask, Parallel, Thread, End}

-- what the command of a line is that asks for one
pub asked_is : (line : List ℕ) → IsSome (command_asked (line_of line)) → line_of line ≡ Ok (Ask (command_in line))
asked_is line asks = by_said (line_of line) asks
  where
    by_said : (said : Result Line ScriptFault) → IsSome (command_asked said) → said ≡ Ok (Ask (unwrap_or (command_asked said) (Mkdir [])))
    by_said (Ok Blank) asks = absurd cc
    by_said (Ok (Ask command)) asks = refl
    by_said (Ok Parallel) asks = absurd cc
    by_said (Ok Thread) asks = absurd cc
    by_said (Ok End) asks = absurd cc
    by_said (Err fault) asks = absurd cc

-- a line asks for one command
pub same_command : (said : Result Line ScriptFault) (one other : Command) → said ≡ Ok (Ask one) → said ≡ Ok (Ask other) → one ≡ other
same_command said one other is also = let e : Ok (Ask one) ≡ Ok (Ask other) = sym is ∙ also in cc
