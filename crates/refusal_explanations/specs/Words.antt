-- What is wrong, in words: by refusals, the causes that they carry, and the bytes that follow the offset where it is wrong.
use Rattle.std.specs.Prelude.{ℕ, Bool, true, false, not, nat_lt, ◌||◌, ◌&&◌, ◌==◌, if◌then◌else◌, List, [], ◌∷◌, ◌++◌, drop, codes, Option, Some, None}
use Rattle.std.specs.List.{list_any, prefix_len}
use Rattle.std.specs.Option.{is_some}
use Rattle.trace_lex.specs.Blanks.{is_blank}
use Rattle.trace_lex.specs.Decimals.{is_digit}
use Rattle.trace_format.specs.declared.fault.DeclarationCause.{DeclarationCause}
use Rattle.trace_format.specs.declared.fault.DeclarationCause.TheVariants as declaration
use Rattle.trace_format.specs.declared.fault.RowCause.{RowCause}
use Rattle.trace_format.specs.declared.fault.RowCause.TheVariants as row
use Rattle.trace_filter.specs.FilterCauses.{is_sign}
use Rattle.trace_filter.specs.declared.fault.FilterCause.{FilterCause}
use Rattle.trace_filter.specs.declared.fault.FilterCause.TheVariants as filter
use Rattle.trace_trigger.specs.TriggerTexts.{begins, word_of}
use Rattle.trace_trigger.specs.declared.fault.HistCause.{HistCause}
use Rattle.trace_trigger.specs.declared.fault.HistCause.TheVariants as hist
use Rattle.trace_trigger.specs.declared.fault.OperatorCause.{OperatorCause}
use Rattle.trace_trigger.specs.declared.fault.OperatorCause.TheVariants as operator
use Rattle.trace_trigger.specs.declared.fault.TextCause.{TextCause}
use Rattle.trace_trigger.specs.declared.fault.TextCause.TheVariants as cause
use Rattle.trace_command.specs.Commands.{Command}
use Rattle.trace_command.specs.Paths.{File, SyntheticEvents, OfInstance, OfEvent, address_of}
use Rattle.trace_command.specs.declared.command.CommandOf.TheVariants.{Emit, Mkdir, Rmdir, Write, Read}
use Rattle.trace_command.specs.declared.file_name.EventFile.{EventFile}
use Rattle.trace_command.specs.declared.file_name.EventFile.TheVariants as per_event
use Rattle.trace_command.specs.declared.file_name.TopFile.{TopFile}
use Rattle.trace_command.specs.declared.file_name.TopFile.TheVariants as top
use Rattle.trace_command.specs.declared.refusal.Limit.{Limit}
use Rattle.trace_command.specs.declared.refusal.Limit.TheVariants as limit
use Rattle.trace_command.specs.declared.refusal.Refusal.{Refusal}
use Rattle.trace_command.specs.declared.refusal.Refusal.TheVariants.{NoSuchFile, NotReadable, NotWritable, BadValue, BadTrigger, NoSuchEvent, EventExists, BadDefinition, TooBig, FilterSyntax, NoSuchField, WrongOperator, HistSyntax, BadSize, TriggerExists, NoSuchTrigger, TooMany, InstanceExists, NoSuchInstance, Busy, NoSuchCpu, BadRow, HistoryFull, Memory, Worn}
use Rattle.trace_script.specs.Tokens.{is_quote}
use Rattle.refusal_explanations.specs.Bytes.{ends_with, is_same_byte, part_before}
use Rattle.refusal_explanations.specs.LeftOut.{of_attributes, of_fields, of_triggers}
use Rattle.refusal_explanations.specs.Places.{attribute_at, is_bare_hist, mark_len}
use Rattle.refusal_explanations.specs.declared.subject.Subject.{Subject}
use Rattle.refusal_explanations.specs.declared.subject.Subject.TheVariants as subject

-- ---- N7

-- a length is written after the field's name, not after `char`
abbrev pub type_words : List ℕ → List ℕ
type_words rest =
    if begins (codes "char[") rest then codes "expected the length after the field's name, as `char name[16]`"
    else codes "expected a type, as `u64` or `char`"

-- a `,` (44) at the end of the word, which goes up to a blank or a `;` (59)
abbrev pub name_words : List ℕ → List ℕ
name_words rest =
    if ends_with 44 (part_before 59 rest) then codes "expected a field's name, and `;` in place of `,`" else codes "expected a field's name"

-- a `!`, by which a kernel's event is removed
abbrev pub event_words : List ℕ → List ℕ
event_words rest = if begins (codes "!") rest then codes "a declared event can't be removed" else codes "expected the event's name"

abbrev pub declaration_words : DeclarationCause → List ℕ → List ℕ
declaration_words declaration.EventName rest = event_words rest
declaration_words declaration.FieldType rest = type_words rest
declaration_words declaration.UnsignedType rest = codes "expected `int` or `long`"
declaration_words declaration.StringField rest = codes "expected a new field's name and its length from 1 to 64, as `name[16]`"
declaration_words declaration.FieldName rest = name_words rest
declaration_words declaration.ReservedName rest = codes "this name is reserved"
declaration_words declaration.RepeatedName rest = codes "a field has this name already"
declaration_words declaration.Semicolon rest = codes "expected `;`"

-- ---- N9

-- a `-` (45) and a digit
abbrev pub is_negative : List ℕ → Bool
is_negative (sign ∷ b ∷ bs) = sign == 45 && is_digit b
is_negative _ = false

-- where a value is due
abbrev pub value_words : List ℕ → List ℕ
value_words [] = codes "expected a value"
value_words (b ∷ bs) =
    if is_quote b && list_any (is_same_byte b) bs then codes "expected a number, without quotes"
    else (if is_quote b then codes "this quote is not closed"
    else (if (b == 40 || b == 41) || (b == 38 || b == 124) then codes "expected a value"
    else (if is_digit b || is_negative (b ∷ bs) then codes "expected a number of 64 bits, as `10`, `0xa` or octal `012`"
    else (if is_sign b then codes "expected one operator and a number" else codes "expected a number"))))

-- where a filter may end, or go on with `&&` or `||`; after bytes of operators, if no `(` (40) or `!` (33) follows, with more of an operator
abbrev pub joint_words : Bool → List ℕ → List ℕ
joint_words is_signs [] = codes "expected `)`"
joint_words is_signs (b ∷ bs) =
    if b == 41 then codes "no `(` is open before this `)`"
    else (if not is_signs || ((b == 38 || b == 124) || (b == 40 || b == 33)) then codes "expected `&&` or `||`" else codes "expected one operator before this value")

abbrev pub filter_words : FilterCause → List ℕ → List ℕ
filter_words filter.Operand rest = codes "expected a field, `!` or `(`"
filter_words filter.Operator rest = codes "expected an operator"
filter_words filter.Value rest = value_words rest
filter_words filter.Joint rest = joint_words false rest
filter_words filter.JointAfterSigns rest = joint_words true rest

-- ---- N11

abbrev pub operator_words : OperatorCause → List ℕ → List ℕ
operator_words operator.Compared rest =
    if begins (codes "~") rest then codes "a number doesn't take `~`" else codes "a string takes no operator but `==`, `!=` and `~`"
operator_words operator.Modified rest = codes "a string takes no modifier"
operator_words operator.Summed rest = codes "a string has no sum"

-- ---- N12

-- an attribute, which goes up to a blank or a `:` (58), with a `=` (61) is one that has a value
abbrev pub attribute_due : List ℕ → List ℕ
attribute_due rest =
    if list_any (is_same_byte 61) (part_before 58 rest) then codes "expected `keys=`, `vals=`, `sort=`, `size=` or `name=`; variables are left out"
    else codes "expected `keys=`, `vals=`, `sort=`, `size=`, `name=`, `pause`, `continue` or `clear`"

abbrev pub attribute_words : List ℕ → List ℕ
attribute_words rest = of_attributes rest (attribute_due rest)

-- a variable, or else what is told of an item
abbrev pub item_words : List ℕ → List ℕ → List ℕ
item_words rest other = if begins (codes "$") rest then codes "variables are left out" else other

abbrev pub hist_words : HistCause → List ℕ → List ℕ
hist_words hist.Unknown rest = attribute_words rest
hist_words hist.Size rest = codes "expected one `size=` and its digits"
hist_words hist.Action rest = codes "there is an action already"
hist_words hist.Repeated rest = codes "this attribute is there already"
hist_words (hist.Key true) rest = item_words rest (codes "expected a field, alone or with `.hex`, `.log2` or `.buckets=N`")
hist_words (hist.Key false) rest = item_words rest (codes "expected another field, alone or with `.hex`, `.log2` or `.buckets=N`")
hist_words (hist.Value true) rest = item_words rest (codes "expected a field, without a modifier")
hist_words (hist.Value false) rest = item_words rest (codes "expected another field, without a modifier")
hist_words (hist.Sort true) rest = codes "expected `hitcount`, a key or a value, alone or with `.ascending` or `.descending`"
hist_words (hist.Sort false) rest = codes "expected another key or value, or `hitcount`, alone or with `.ascending` or `.descending`"
hist_words hist.Name rest = codes "expected a table's name"
hist_words hist.NoKeys rest = codes "expected `:keys=` and a field"
hist_words hist.Condition rest = codes "expected `if`, a blank and a filter"

-- ---- N10

abbrev pub no_field_words : Subject → List ℕ
no_field_words subject.AllFilters = codes "an event has no field of this name"
no_field_words _ = codes "the event has no field of this name"

abbrev pub field_words : Subject → List ℕ → List ℕ
field_words subject rest = of_fields rest (no_field_words subject)

-- ---- N21

abbrev pub row_words : RowCause → List ℕ
row_words row.Unknown = codes "the event has no field of this name"
row_words row.Repeated = codes "the field is repeated"
row_words row.NoNumber = codes "its value is no number from -2^63 to 2^64 - 1"
row_words row.OutOfRange = codes "its value is out of the range of its type"
row_words row.BadByte = codes "its value has a byte that is not from 0x20 to 0x7e"
row_words row.TooLong = codes "its value is too long"
row_words row.Missing = codes "the field is missing"

-- ---- N16

abbrev pub limit_words : Limit → List ℕ
limit_words limit.Fields = codes "an event has at most 16 fields"
limit_words limit.Events = codes "there are 64 events already"
limit_words limit.Instances = codes "there are eight instances already"
limit_words limit.Triggers = codes "the event has four triggers already"
limit_words limit.Keys = codes "a hist trigger has at most three keys"
limit_words limit.Values = codes "a hist trigger has at most three values besides `hitcount`"
limit_words limit.SortKeys = codes "a hist trigger is sorted by at most two names"
limit_words limit.FilterBytes = codes "a filter has at most 1,024 bytes"
limit_words limit.Openings = codes "at most 16 `!` and `(` may be open"

-- ---- N4, of what is written to a `trigger` file

abbrev pub kind_words : List ℕ → List ℕ
kind_words body =
    if nat_lt 0 (prefix_len is_blank body) then codes "no blank may come before `hist:` or `snapshot`"
    else (if is_bare_hist body then codes "expected `:keys=` and a field" else of_triggers body (codes "expected `hist:` or `snapshot`"))

abbrev pub body_words : TextCause → List ℕ → List ℕ
body_words cause.Kind body = kind_words body
body_words cause.Count body = codes "expected a count from 1 to 4,294,967,295"
body_words cause.AfterSnapshot body = codes "expected a blank, or `:` and a count"
body_words cause.Condition body = codes "expected `if`, a blank and a filter"
body_words cause.Filter body = codes "expected a filter"

unfoldable pub trigger_words : TextCause → List ℕ → List ℕ
trigger_words cause text = body_words cause (drop (mark_len text) text)

-- ---- what a command is about

abbrev pub subject_of_event_file : EventFile → Subject
subject_of_event_file per_event.Enable = subject.Switch
subject_of_event_file _ = subject.Write

abbrev pub subject_of_top_file : TopFile → Subject
subject_of_top_file top.TracingOn = subject.Number
subject_of_top_file top.Overwrite = subject.Switch
subject_of_top_file top.EventsEnable = subject.Switch
subject_of_top_file top.TraceOptions = subject.Options
subject_of_top_file top.Snapshot = subject.Number
subject_of_top_file top.EventsFilter = subject.AllFilters
subject_of_top_file _ = subject.Write

-- what is written to a file
abbrev pub written_subject : Option File → Subject
written_subject (Some SyntheticEvents) = subject.Declaration
written_subject (Some (OfEvent name file)) = subject_of_event_file file
written_subject (Some (OfInstance file)) = subject_of_top_file file
written_subject _ = subject.Write

abbrev pub subject_at : List ℕ → Subject
subject_at path = written_subject (address_of path).file

-- N1
abbrev pub unknown_words : Subject → List ℕ
unknown_words subject.Instance = codes "expected `instances/` and a name"
unknown_words _ = codes "no file has this path"

abbrev pub path_words : Subject → List ℕ → List ℕ
path_words subject path =
    if begins (codes "/sys/kernel/debug/tracing/") path then codes "paths begin below `/sys/kernel/debug/tracing/`" else unknown_words subject

-- N4
unfoldable pub bad_value_words : Subject → List ℕ
bad_value_words subject.Instance = codes "an instance can't have this name"
bad_value_words subject.Read = codes "only a pipe is read by `take`"
bad_value_words subject.Switch = codes "expected `0` or `1`"
bad_value_words subject.Options = codes "expected `overwrite` or `nooverwrite`"
bad_value_words subject.Number = codes "expected a decimal number below 2^64"
bad_value_words _ = codes "the file doesn't take what is written"

-- N14
abbrev pub exists_words : List ℕ → List ℕ
exists_words text =
    if begins (codes "snapshot") text then codes "the event has a snapshot trigger already"
    else (if is_some (attribute_at (codes ":name=") (word_of text)) then codes "expected a trigger that is new to the event and fits the table of its name"
    else codes "the event has this trigger already")

-- N15: a trigger that goes on or is cleared is never there after `>`
abbrev pub no_trigger_words : List ℕ → List ℕ
no_trigger_words text =
    if begins (codes "!") text then codes "the event has no such trigger: its `trigger` lists those that it has"
    else codes "expected `>>` and a trigger that the event's `trigger` lists, with its name, keys, values, sort and filter"

-- what is wrong with a command about this that names this path and writes this
unfoldable pub refusal_words : Subject → List ℕ → List ℕ → Refusal → List ℕ
refusal_words subject path text NoSuchFile = path_words subject path
refusal_words subject path text NotReadable = codes "the file can't be read"
refusal_words subject path text NotWritable = codes "the file can't be written"
refusal_words subject path text BadValue = bad_value_words subject
refusal_words subject path text (BadTrigger cause) = trigger_words cause text
refusal_words subject.AllFilters path text NoSuchEvent = codes "no event is declared"
refusal_words _ path text NoSuchEvent = codes "no event of this name is declared"
refusal_words subject path text EventExists = codes "an event of this name is declared already"
refusal_words subject path text (BadDefinition at cause) = declaration_words cause (drop at text)
refusal_words subject path text TooBig = codes "a record of the event would be longer than a page"
refusal_words subject path text (FilterSyntax at cause) = filter_words cause (drop at text)
refusal_words subject path text (NoSuchField at) = field_words subject (drop at text)
refusal_words subject path text (WrongOperator at cause) = operator_words cause (drop at text)
refusal_words subject path text (HistSyntax at cause) = hist_words cause (drop at text)
refusal_words subject path text BadSize = codes "expected a size from 65 to 131072"
refusal_words subject path text TriggerExists = exists_words text
refusal_words subject path text NoSuchTrigger = no_trigger_words text
refusal_words subject path text (TooMany limit) = limit_words limit
refusal_words subject path text InstanceExists = codes "there is an instance of this name already"
refusal_words subject path text NoSuchInstance = codes "there is no instance of this name"
refusal_words subject.Declaration path text Busy = codes "an event is declared already; declare more by `>>`"
refusal_words _ path text Busy = codes "an event of the instance has a snapshot trigger"
refusal_words subject path text NoSuchCpu = codes "no CPU has this number"
refusal_words subject path text (BadRow bad) = row_words bad.cause
refusal_words subject path text HistoryFull = codes "the history is full"
refusal_words subject path text Memory = codes "out of memory"
refusal_words subject path text Worn = codes "all tickets are drawn"

-- what is wrong with the write of this text to the file of this path
abbrev pub write_words : List ℕ → List ℕ → Refusal → List ℕ
write_words path text refusal = refusal_words (subject_at path) path text refusal

-- what is wrong with a line that was written to an event's `inject`: its refusal, or none, if it is no list of pairs
abbrev pub injection_words : Option Refusal → List ℕ
injection_words None = codes "expected `NAME=VALUE ..`"
injection_words (Some refusal) = refusal_words subject.Emission [] [] refusal

-- what is wrong with a command
abbrev pub command_words : Command → Refusal → List ℕ
command_words (Emit event cpu pid pairs) refusal = injection_words (Some refusal)
command_words (Mkdir path) refusal = refusal_words subject.Instance path [] refusal
command_words (Rmdir path) refusal = refusal_words subject.Instance path [] refusal
command_words (Write path append text) refusal = write_words path text refusal
command_words (Read path limit) refusal = refusal_words subject.Read path [] refusal

-- the name of a field before words; there is none of a value that is beyond the last field
abbrev pub named : List ℕ → List ℕ → List ℕ
named [] words = words
named (b ∷ bs) words = (b ∷ bs) ++ codes ": " ++ words

-- the sentence of a refusal: its words; of an emission's row after the name of the field
abbrev pub sentence_of : Refusal → List ℕ → List ℕ
sentence_of (BadRow bad) words = named bad.field words
sentence_of _ words = words
