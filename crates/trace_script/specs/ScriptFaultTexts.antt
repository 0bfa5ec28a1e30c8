-- What is shown of each fault.
use Rattle.std.specs.Prelude.{ℕ, List, codes}
use Rattle.trace_script.specs.declared.fault.ScriptFault.{ScriptFault}
use Rattle.trace_script.specs.declared.fault.ScriptFault.TheVariants.{LineTooLong, BadByte, UnclosedQuote, UnknownCommand, WrongWords, BadNumber, BlockOutOfPlace, TooManyThreads}
use Rattle.trace_script.specs.declared.fault.LineError.{LineError}
use Rattle.trace_script.specs.declared.fault.LineError.TheVariants as line

unfoldable pub shown_script_fault : ScriptFault → List ℕ
shown_script_fault LineTooLong = codes "line too long"
shown_script_fault BadByte = codes "bad byte"
shown_script_fault UnclosedQuote = codes "unclosed quote"
shown_script_fault UnknownCommand = codes "unknown command"
shown_script_fault WrongWords = codes "wrong words"
shown_script_fault BadNumber = codes "bad number"
shown_script_fault BlockOutOfPlace = codes "block out of place"
shown_script_fault TooManyThreads = codes "too many threads"

unfoldable pub shown_line_error : LineError → List ℕ
shown_line_error (line.Fault fault) = shown_script_fault fault
shown_line_error line.Memory = codes "out of memory"
