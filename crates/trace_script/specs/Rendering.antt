-- What a session writes for a line.
use Rattle.std.specs.Prelude.{ℕ, List, [], ◌∷◌, ◌++◌, codes}
use Rattle.std.specs.Fmt.{decimal}
use Rattle.trace_command.specs.Refusals.{number_of, name_of}
use Rattle.trace_command.specs.declared.command.Reply.{Reply}
use Rattle.trace_command.specs.declared.command.Reply.TheVariants.{Done, Text}
use Rattle.trace_command.specs.declared.refusal.Refusal.{Refusal}
use Rattle.trace_command.specs.declared.refusal.Refusal.TheVariants.{BadDefinition, FilterSyntax, NoSuchField, WrongOperator, HistSyntax, BadRow}
use Rattle.trace_script.specs.declared.fault.ScriptFault.{ScriptFault}
use Rattle.trace_script.specs.declared.fault.ScriptFault.TheVariants.{LineTooLong, BadByte, UnclosedQuote, UnknownCommand, WrongWords, BadNumber, BlockOutOfPlace, TooManyThreads}
use Rattle.trace_script.specs.declared.outcome.Outcome.{Outcome}
use Rattle.trace_script.specs.declared.outcome.Outcome.TheVariants.{Replied, Refused, Fault}

-- where in the written text, or which field; nothing for the other refusals
unfoldable pub detail_of : Refusal → List ℕ
detail_of (BadDefinition at cause) = codes " at " ++ decimal at
detail_of (FilterSyntax at cause) = codes " at " ++ decimal at
detail_of (NoSuchField at) = codes " at " ++ decimal at
detail_of (WrongOperator at cause) = codes " at " ++ decimal at
detail_of (HistSyntax at cause) = codes " at " ++ decimal at
detail_of (BadRow bad) = 32 ∷ bad.field
detail_of _ = []

-- the name that is printed for a fault
unfoldable pub fault_name : ScriptFault → List ℕ
fault_name LineTooLong = codes "LineTooLong"
fault_name BadByte = codes "BadByte"
fault_name UnclosedQuote = codes "UnclosedQuote"
fault_name UnknownCommand = codes "UnknownCommand"
fault_name WrongWords = codes "WrongWords"
fault_name BadNumber = codes "BadNumber"
fault_name BlockOutOfPlace = codes "BlockOutOfPlace"
fault_name TooManyThreads = codes "TooManyThreads"

-- `! LINE: N7 BadDefinition at 2`, and a newline
unfoldable pub refusal_line : ℕ → Refusal → List ℕ
refusal_line number refusal =
    codes "! " ++ decimal number ++ codes ": N" ++ decimal (number_of refusal) ++ codes " " ++ name_of refusal ++ detail_of refusal ++ codes "\n"

-- `! LINE: script FAULT`, and a newline
unfoldable pub fault_line : ℕ → ScriptFault → List ℕ
fault_line number fault = codes "! " ++ decimal number ++ codes ": script " ++ fault_name fault ++ codes "\n"

-- a reply that is done is nothing, and a text its bytes
abbrev pub reply_text : Reply → List ℕ
reply_text Done = []
reply_text (Text text) = text

-- what is written for the line of this number
abbrev pub rendered : ℕ → Outcome → List ℕ
rendered number (Replied reply) = reply_text reply
rendered number (Refused refusal) = refusal_line number refusal
rendered number (Fault fault) = fault_line number fault
