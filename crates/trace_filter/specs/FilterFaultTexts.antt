-- What is shown of each fault.
use Rattle.std.specs.Prelude.{ℕ, List, ◌++◌, codes}
use Rattle.std.specs.Fmt.{decimal}
use Rattle.trace_filter.specs.declared.fault.FilterFault.{FilterFault}
use Rattle.trace_filter.specs.declared.fault.FilterFault.TheVariants.{TooLong, TooDeep, FilterSyntax, NoSuchField, WrongOperator, Memory}

unfoldable pub shown_filter_fault : FilterFault → List ℕ
shown_filter_fault TooLong = codes "the filter is too long"
shown_filter_fault TooDeep = codes "the filter is nested too deep"
shown_filter_fault (FilterSyntax at cause) = codes "syntax error at byte " ++ decimal at
shown_filter_fault (NoSuchField at) = codes "no such field at byte " ++ decimal at
shown_filter_fault (WrongOperator at) = codes "wrong operator at byte " ++ decimal at
shown_filter_fault Memory = codes "out of memory"
