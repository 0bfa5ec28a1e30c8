-- Outcomes as numbers, and what of them is text.
use Rattle.std.specs.Prelude.{ℕ, ◌+◌, List, [], Option, Some, None}
use Rattle.trace_command.specs.Refusals.{number_of}
use Rattle.trace_command.specs.declared.command.Reply.TheVariants.{Text}
use Rattle.trace_command.specs.declared.refusal.Refusal.TheVariants.{BadDefinition, FilterSyntax, NoSuchField, WrongOperator, HistSyntax, BadRow}
use Rattle.trace_script.specs.declared.fault.ScriptFault.{ScriptFault}
use Rattle.trace_script.specs.declared.fault.ScriptFault.TheVariants.{LineTooLong, BadByte, UnclosedQuote, UnknownCommand}
use Rattle.trace_script.specs.declared.fault.ScriptFault.TheVariants.{WrongWords, BadNumber, BlockOutOfPlace, TooManyThreads}
use Rattle.trace_script.specs.declared.outcome.Outcome.{Outcome}
use Rattle.trace_script.specs.declared.outcome.Outcome.TheVariants.{Replied, Refused, Fault}

-- a script fault, in the order in which faults are looked for
abbrev pub fault_number : ScriptFault → ℕ
fault_number LineTooLong = 1
fault_number BadByte = 2
fault_number UnclosedQuote = 3
fault_number UnknownCommand = 4
fault_number WrongWords = 5
fault_number BadNumber = 6
fault_number BlockOutOfPlace = 7
fault_number TooManyThreads = 8

-- 0 for what was done, a refusal's number, and for a fault 100 and its number
abbrev pub status_of : Outcome → ℕ
status_of (Replied reply) = 0
status_of (Refused refusal) = number_of refusal
status_of (Fault fault) = 100 + fault_number fault

-- what was read, or the name of the field whose value is wrong
abbrev pub reply_in : Outcome → List ℕ
reply_in (Replied (Text text)) = text
reply_in (Refused (BadRow bad)) = bad.field
reply_in _ = []

-- where the string that was written is wrong
abbrev pub offset_in : Outcome → Option ℕ
offset_in (Refused (BadDefinition at cause)) = Some at
offset_in (Refused (FilterSyntax at cause)) = Some at
offset_in (Refused (NoSuchField at)) = Some at
offset_in (Refused (WrongOperator at cause)) = Some at
offset_in (Refused (HistSyntax at cause)) = Some at
offset_in _ = None
