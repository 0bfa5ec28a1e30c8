-- The refusals' numbers and names, the refusals that faults become, and which answers refused memory may take the place of.
use Rattle.std.specs.Prelude.{◌≡◌, ◌≢◌, ℕ, Bool, true, false, IsTrue, if◌then◌else◌, List, [], ◌∷◌, ◌++◌, Result, Ok, Err, codes}
use Rattle.std.specs.Fmt.{decimal}
use Rattle.std.specs.Str.{is_utf8}
use Rattle.trace_filter.specs.declared.fault.FilterFault.{FilterFault}
use Rattle.trace_filter.specs.declared.fault.FilterFault.TheVariants as filter
use Rattle.trace_format.specs.declared.fault.DefinitionFault.{DefinitionFault}
use Rattle.trace_format.specs.declared.fault.DefinitionFault.TheVariants as definition
use Rattle.trace_format.specs.declared.fault.CatalogFault.{CatalogFault}
use Rattle.trace_format.specs.declared.fault.CatalogFault.TheVariants as catalog
use Rattle.trace_format.specs.declared.fault.RowFault.{RowFault}
use Rattle.trace_format.specs.declared.fault.RowFault.TheVariants as row
use Rattle.trace_trigger.specs.declared.fault.OperatorCause.TheVariants.{Compared}
use Rattle.trace_trigger.specs.declared.fault.TriggerFault.{TriggerFault}
use Rattle.trace_trigger.specs.declared.fault.TriggerFault.TheVariants as trigger
use Rattle.trace_command.specs.declared.refusal.Limit.TheVariants as limit
use Rattle.trace_command.specs.declared.refusal.Refusal.{Refusal}
use Rattle.trace_command.specs.declared.refusal.Refusal.TheVariants.{NoSuchFile, NotReadable, NotWritable, BadValue, BadTrigger, NoSuchEvent, EventExists, BadDefinition, TooBig, FilterSyntax, NoSuchField, WrongOperator, HistSyntax, BadSize, TriggerExists, NoSuchTrigger, TooMany, InstanceExists, NoSuchInstance, Busy, NoSuchCpu, BadRow, HistoryFull, Memory, Worn}

-- the number and the name that are printed for a refusal
abbrev pub printed_as : Refusal → ℕ × List ℕ
printed_as NoSuchFile = (1, codes "NoSuchFile")
printed_as NotReadable = (2, codes "NotReadable")
printed_as NotWritable = (3, codes "NotWritable")
printed_as BadValue = (4, codes "BadValue")
printed_as (BadTrigger cause) = (4, codes "BadValue")
printed_as NoSuchEvent = (5, codes "NoSuchEvent")
printed_as EventExists = (6, codes "EventExists")
printed_as (BadDefinition at cause) = (7, codes "BadDefinition")
printed_as TooBig = (8, codes "TooBig")
printed_as (FilterSyntax at cause) = (9, codes "FilterSyntax")
printed_as (NoSuchField at) = (10, codes "NoSuchField")
printed_as (WrongOperator at cause) = (11, codes "WrongOperator")
printed_as (HistSyntax at cause) = (12, codes "HistSyntax")
printed_as BadSize = (13, codes "BadSize")
printed_as TriggerExists = (14, codes "TriggerExists")
printed_as NoSuchTrigger = (15, codes "NoSuchTrigger")
printed_as (TooMany limit) = (16, codes "TooMany")
printed_as InstanceExists = (17, codes "InstanceExists")
printed_as NoSuchInstance = (18, codes "NoSuchInstance")
printed_as Busy = (19, codes "Busy")
printed_as NoSuchCpu = (20, codes "NoSuchCpu")
printed_as (BadRow bad) = (21, codes "BadRow")
printed_as HistoryFull = (22, codes "HistoryFull")
printed_as Memory = (23, codes "Memory")
printed_as Worn = (24, codes "Worn")

unfoldable pub number_of : Refusal → ℕ
number_of refusal = (printed_as refusal).0

unfoldable pub name_of : Refusal → List ℕ
name_of refusal = (printed_as refusal).1

-- ---- the refusals that the faults of formats, filters and triggers become

abbrev pub refusal_of_definition : DefinitionFault → Refusal
refusal_of_definition (definition.BadDefinition at cause) = BadDefinition at cause
refusal_of_definition definition.Memory = Memory

abbrev pub refusal_of_catalog : CatalogFault → Refusal
refusal_of_catalog catalog.EventExists = EventExists
refusal_of_catalog catalog.TooManyFields = TooMany limit.Fields
refusal_of_catalog catalog.TooManyEvents = TooMany limit.Events
refusal_of_catalog catalog.TooBig = TooBig
refusal_of_catalog catalog.Memory = Memory

abbrev pub refusal_of_row : RowFault → Refusal
refusal_of_row (row.BadRow bad) = BadRow bad
refusal_of_row row.Memory = Memory

abbrev pub refusal_of_filter : FilterFault → Refusal
refusal_of_filter filter.TooLong = TooMany limit.FilterBytes
refusal_of_filter filter.TooDeep = TooMany limit.Openings
refusal_of_filter (filter.FilterSyntax at cause) = FilterSyntax at cause
refusal_of_filter (filter.NoSuchField at) = NoSuchField at
refusal_of_filter (filter.WrongOperator at) = WrongOperator at Compared
refusal_of_filter filter.Memory = Memory

-- a text that is written as no trigger is no value of its file
abbrev pub refusal_of_trigger : TriggerFault → Refusal
refusal_of_trigger (trigger.BadText cause) = BadTrigger cause
refusal_of_trigger trigger.FilterTooLong = TooMany limit.FilterBytes
refusal_of_trigger trigger.FilterTooDeep = TooMany limit.Openings
refusal_of_trigger trigger.TooManyKeys = TooMany limit.Keys
refusal_of_trigger trigger.TooManyValues = TooMany limit.Values
refusal_of_trigger trigger.TooManySortKeys = TooMany limit.SortKeys
refusal_of_trigger (trigger.FilterSyntax at cause) = FilterSyntax at cause
refusal_of_trigger (trigger.NoSuchField at) = NoSuchField at
refusal_of_trigger (trigger.WrongOperator at cause) = WrongOperator at cause
refusal_of_trigger (trigger.HistSyntax at cause) = HistSyntax at cause
refusal_of_trigger trigger.BadSize = BadSize
refusal_of_trigger trigger.Memory = Memory

-- a field's name as text: U+FFFD, of which these are the bytes, for one that is not UTF-8
unfoldable pub shown_name : List ℕ → List ℕ
shown_name name = if is_utf8 name then name else 239 ∷ 191 ∷ 189 ∷ []

-- what is shown after a refusal's name: a place in the written text, or a field
unfoldable pub shown_detail : Refusal → List ℕ
shown_detail (BadDefinition at cause) = codes " at " ++ decimal at
shown_detail (FilterSyntax at cause) = codes " at " ++ decimal at
shown_detail (NoSuchField at) = codes " at " ++ decimal at
shown_detail (WrongOperator at cause) = codes " at " ++ decimal at
shown_detail (HistSyntax at cause) = codes " at " ++ decimal at
shown_detail (BadRow bad) = codes " " ++ shown_name bad.field
shown_detail _ = []

-- a refusal as text: `N7 BadDefinition at 2`
unfoldable pub shown : Refusal → List ℕ
shown refusal = codes "N" ++ decimal (number_of refusal) ++ codes " " ++ name_of refusal ++ shown_detail refusal

-- ---- answers

-- the refusals that are found before a command takes any memory: no such file, instance, CPU or event, an instance that is there already, a
-- file that can't be read or written, and a wrong value. A declaration, a row, a filter, a hist trigger and the room in the history may be looked
-- at only after memory was taken.
abbrev pub is_found_early : Refusal → Bool
is_found_early NoSuchFile = true
is_found_early NoSuchInstance = true
is_found_early InstanceExists = true
is_found_early NoSuchCpu = true
is_found_early NoSuchEvent = true
is_found_early NotReadable = true
is_found_early NotWritable = true
is_found_early BadValue = true
is_found_early (BadTrigger cause) = true
is_found_early _ = false

-- the answer is such a refusal
abbrev pub IsFoundEarly : {A : Type 0} → Result A Refusal → Type 0
IsFoundEarly (Ok reply) = ⊥
IsFoundEarly (Err refusal) = IsTrue (is_found_early refusal)

-- the answer is given, or memory was refused
abbrev pub OrMemory : {A : Type 0} → Result A Refusal → Result A Refusal → Type 0
OrMemory (Ok reply) answered = answered ≡ Ok reply
OrMemory (Err refusal) answered = refusal ≢ Memory → answered ≡ Err refusal

-- a refusal is the answer; or memory was refused, for an answer that is not found early
abbrev pub IsRefusal : {A : Type 0} → Refusal → Result A Refusal → Type 0
IsRefusal refusal answered = (refusal ≢ Memory → answered ≡ Err refusal) × (IsFoundEarly answered → answered ≡ Err refusal)

-- the answer is given; or memory was refused, for one that is not found early
abbrev pub IsAnswer : {A : Type 0} → Result A Refusal → Result A Refusal → Type 0
IsAnswer (Ok reply) answered = answered ≡ Ok reply
IsAnswer (Err refusal) answered = IsRefusal refusal answered
