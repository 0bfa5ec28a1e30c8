-- Which byte of what is written, or which word of a line, is to blame for a refusal.
use Rattle.std.specs.Prelude.{ℕ, ◌+◌, ◌-◌, Bool, nat_lt, if◌then◌else◌, List, [], ◌∷◌, length, drop, codes, slice_get, Option, Some, None, option_and_then, unwrap_or, Result, Ok}
use Rattle.std.specs.List.{prefix_len}
use Rattle.std.specs.Option.{option_or}
use Rattle.std.specs.Str.{bytes_eq}
use Rattle.trace_lex.specs.Blanks.{is_blank}
use Rattle.trace_trigger.specs.Frames.{is_unblank}
use Rattle.trace_trigger.specs.TriggerTexts.{begins, word_of, after_word}
use Rattle.trace_trigger.specs.declared.fault.TextCause.{TextCause}
use Rattle.trace_trigger.specs.declared.fault.TextCause.TheVariants.{Kind, Count, AfterSnapshot, Condition, Filter}
use Rattle.trace_command.specs.Commands.{Command}
use Rattle.trace_command.specs.declared.command.CommandOf.TheVariants.{Emit, Mkdir, Write}
use Rattle.trace_command.specs.declared.refusal.Refusal.{Refusal}
use Rattle.trace_command.specs.declared.refusal.Refusal.TheVariants.{BadValue, BadTrigger, EventExists, BadDefinition, TooBig, FilterSyntax, NoSuchField, WrongOperator, HistSyntax, BadSize, TriggerExists, NoSuchTrigger, TooMany, Busy, NoSuchCpu, BadRow, HistoryFull, Memory, Worn}
use Rattle.trace_script.specs.declared.fault.ScriptFault.{ScriptFault}
use Rattle.trace_script.specs.declared.line.Line.{Line}
use Rattle.trace_script.specs.declared.line.Line.TheVariants.{Ask}
use Rattle.refusal_explanations.specs.Carets.{first_bare, pair_offset, starts_of, word_at, written_offset}

-- ---- a trigger

-- how many bytes the word and the blanks after it have
abbrev pub after_gap : List ℕ → ℕ
after_gap body = prefix_len is_unblank body + prefix_len is_blank (after_word body)

-- `hist` alone lacks its keys
abbrev pub is_bare_hist : List ℕ → Bool
is_bare_hist body = bytes_eq (word_of body) (codes "hist")

-- where all that follows an optional `!` is wrong
abbrev pub body_offset : TextCause → List ℕ → ℕ
body_offset Kind body = if is_bare_hist body then 4 else 0
body_offset Count body = 9
body_offset AfterSnapshot body = 8
body_offset Condition body = after_gap body
body_offset Filter body = length body

abbrev pub mark_len : List ℕ → ℕ
mark_len text = if begins (codes "!") text then 1 else 0

abbrev pub trigger_offset : TextCause → List ℕ → ℕ
trigger_offset cause text = mark_len text + body_offset cause (drop (mark_len text) text)

-- ---- an attribute, given with the `:` before it

-- whether it begins here
unfoldable pub is_attribute : List ℕ → List ℕ → Bool
is_attribute attribute text = begins attribute text

-- where it is in the rest of a trigger, which begins at `at`
abbrev pub attribute_from : List ℕ → ℕ → List ℕ → Option ℕ
attribute_from attribute at [] = None
attribute_from attribute at (b ∷ bs) = if is_attribute attribute (b ∷ bs) then Some at else attribute_from attribute (at + 1) bs

unfoldable pub attribute_at : List ℕ → List ℕ → Option ℕ
attribute_at attribute text = attribute_from attribute 0 text

-- ---- a write

-- the offset that a refusal names in what is written, if it names one
abbrev pub named_offset : Refusal → Option ℕ
named_offset (BadDefinition at cause) = Some at
named_offset (FilterSyntax at cause) = Some at
named_offset (NoSuchField at) = Some at
named_offset (WrongOperator at cause) = Some at
named_offset (HistSyntax at cause) = Some at
named_offset _ = None

-- the size of a hist trigger, after its `:`
abbrev pub size_offset : Option ℕ → Option ℕ
size_offset None = None
size_offset (Some at) = Some (at + 1)

-- by a refusal that names none: in most cases the first byte
abbrev pub other_offset : List ℕ → Refusal → Option ℕ
other_offset text BadSize = size_offset (attribute_at (codes ":size=") (word_of text))
other_offset text (BadTrigger cause) = Some (trigger_offset cause text)
other_offset text BadValue = Some (prefix_len is_blank text)
other_offset text EventExists = Some (prefix_len is_blank text)
other_offset text TooBig = Some (prefix_len is_blank text)
other_offset text TriggerExists = Some (prefix_len is_blank text)
other_offset text NoSuchTrigger = Some (prefix_len is_blank text)
other_offset text (TooMany limit) = Some (prefix_len is_blank text)
other_offset text Busy = Some (prefix_len is_blank text)
other_offset text _ = None

-- the byte that is to blame of this text, if one is, whose write was refused
abbrev pub blamed_offset : List ℕ → Refusal → Option ℕ
blamed_offset text refusal = option_or (named_offset refusal) (other_offset text refusal)

-- or, if there is none, 0; never beyond the text's end
abbrev pub at_most : ℕ → ℕ → ℕ
at_most most at = if nat_lt at most then at else most

abbrev pub write_offset : List ℕ → Refusal → ℕ
write_offset text refusal = at_most (length text) (unwrap_or (blamed_offset text refusal) 0)

-- ---- an emission

-- the index of the pair that is to blame, if one is
abbrev pub blamed_pair : Refusal → Option ℕ
blamed_pair (BadRow bad) = bad.pair
blamed_pair _ = None

-- the word that is to blame of a line that was written to an event's `inject`: the pair that its refusal blames, or the first that is no pair
abbrev pub blamed_word : List ℕ → Option Refusal → Option ℕ
blamed_word line None = first_bare line
blamed_word line (Some refusal) = option_and_then (word_at line) (blamed_pair refusal)

abbrev pub injection_offset : List ℕ → Option Refusal → ℕ
injection_offset line refusal = unwrap_or (blamed_word line refusal) 0

-- ---- a line of a script

-- the command that a line asks for; of a line that asks for none, one that names no path
abbrev pub asked_command : Result Line ScriptFault → Command
asked_command (Ok (Ask command)) = command
asked_command _ = Mkdir []

-- where the last word begins, if there is one
abbrev pub last_word : List ℕ → Option ℕ
last_word line = slice_get (starts_of line) (length (starts_of line) - 1)

-- of an emission its second word, if there is no such CPU, else the fourth, which is the event
abbrev pub emission_place : List ℕ → Refusal → Option ℕ
emission_place line NoSuchCpu = word_at line 1
emission_place line _ = word_at line 3

-- the byte of what is written that is to blame, if one is, else the last word, which is the path
abbrev pub write_place : List ℕ → Option ℕ → Option ℕ
write_place line (Some at) = written_offset line at
write_place line None = last_word line

abbrev pub command_place : List ℕ → Command → Refusal → Option ℕ
command_place line (Emit event cpu pid pairs) refusal = emission_place line refusal
command_place line (Write path append text) refusal = write_place line (other_offset text refusal)
command_place line _ refusal = last_word line

-- where it is wrong in the line of a command, if its refusal names neither an offset nor a pair; nowhere, if the tracer and not the line is to blame
abbrev pub other_place : List ℕ → Command → Refusal → Option ℕ
other_place line command HistoryFull = None
other_place line command Memory = None
other_place line command Worn = None
other_place line command refusal = command_place line command refusal

-- the offset that a refusal names, where the pair begins that it blames, or else where it is wrong otherwise
abbrev pub place_by : List ℕ → Option ℕ → Option ℕ → Option ℕ → Option ℕ
place_by line (Some at) pair other = written_offset line at
place_by line None (Some pair) other = pair_offset line pair
place_by line None None other = other

abbrev pub refusal_place : List ℕ → Command → Refusal → Option ℕ
refusal_place line command refusal = place_by line (named_offset refusal) (blamed_pair refusal) (other_place line command refusal)
