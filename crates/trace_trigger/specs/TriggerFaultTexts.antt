-- What is shown of each fault.
use Rattle.std.specs.Prelude.{ℕ, List, ◌++◌, codes}
use Rattle.std.specs.Fmt.{decimal}
use Rattle.trace_trigger.specs.declared.fault.TriggerFault.{TriggerFault}
use Rattle.trace_trigger.specs.declared.fault.TriggerFault.TheVariants.{BadText, FilterTooLong, FilterTooDeep, TooManyKeys, TooManyValues, TooManySortKeys, FilterSyntax, NoSuchField, WrongOperator, HistSyntax, BadSize, Memory}

unfoldable pub shown_trigger_fault : TriggerFault → List ℕ
shown_trigger_fault (BadText cause) = codes "no trigger is written so"
shown_trigger_fault FilterTooLong = codes "a filter too long"
shown_trigger_fault FilterTooDeep = codes "a filter nested too deep"
shown_trigger_fault TooManyKeys = codes "too many keys"
shown_trigger_fault TooManyValues = codes "too many values"
shown_trigger_fault TooManySortKeys = codes "too many sort keys"
shown_trigger_fault (FilterSyntax at cause) = codes "syntax error at byte " ++ decimal at
shown_trigger_fault (NoSuchField at) = codes "no such field at byte " ++ decimal at
shown_trigger_fault (WrongOperator at cause) = codes "wrong operator at byte " ++ decimal at
shown_trigger_fault (HistSyntax at cause) = codes "syntax error of the hist trigger at byte " ++ decimal at
shown_trigger_fault BadSize = codes "there may be 128 to 131072 entries"
shown_trigger_fault Memory = codes "out of memory"
