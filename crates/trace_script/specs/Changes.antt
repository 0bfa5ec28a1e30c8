-- What a line that was done declares, makes or removes.
use Rattle.std.specs.Prelude.{List, ℕ, Option, Some, None, Result, Ok}
use Rattle.std.specs.Option.{option_map}
use Rattle.std.specs.Result.{result_ok}
use Rattle.trace_command.specs.Paths.{SyntheticEvents}
use Rattle.trace_command.specs.Requests.{Request, MakeInstance, RemoveInstance, WriteFile, request_of}
use Rattle.trace_format.specs.Definitions.{Definition}
use Rattle.trace_format.specs.Reading.{definition_of}
use Rattle.trace_script.specs.Lines.{line_of}
use Rattle.trace_script.specs.declared.change.Change.{Change}
use Rattle.trace_script.specs.declared.change.Change.TheVariants.{Declares, Makes, Removes}
use Rattle.trace_script.specs.declared.fault.ScriptFault.{ScriptFault}
use Rattle.trace_script.specs.declared.line.Line.{Line}
use Rattle.trace_script.specs.declared.line.Line.TheVariants.{Ask}
use Rattle.trace_script.specs.declared.outcome.Outcome.{Outcome}
use Rattle.trace_script.specs.declared.outcome.Outcome.TheVariants.{Replied}

-- the event that a request declares, as tracer_specification defines it too
abbrev pub declares : Request → Option Definition
declares (WriteFile instance (Some SyntheticEvents) append text) = result_ok (definition_of text)
declares _ = None

-- what a request changes that was done
abbrev pub change_of_request : Request → Option Change
change_of_request (MakeInstance name) = option_map Makes name
change_of_request (RemoveInstance name) = option_map Removes name
change_of_request request = option_map Declares (declares request)

-- a line that is no command changes nothing
abbrev pub change_of_line : Result Line ScriptFault → Option Change
change_of_line (Ok (Ask command)) = change_of_request (request_of command)
change_of_line _ = None

-- what a line with this outcome changes: nothing, unless it was done
abbrev pub change_of : List ℕ → Outcome → Option Change
change_of line (Replied reply) = change_of_line (line_of line)
change_of line _ = None
