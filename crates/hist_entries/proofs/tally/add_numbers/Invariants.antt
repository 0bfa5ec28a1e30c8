use Rattle.std.proofs.Common.{◌≡◌, map, take}
use Rattle.std.specs.List.{AllByRecursion}
use Rattle.hist_entries.specs.HistEntries.{added}
use Rattle.hist_entries.specs.Hits.{number_at}
use Rattle.hist_entries.specs.Numbers.{IsFieldNumber}
use Rattle.hist_entries.proofs.tally.add_numbers.Given as goal

abbrev pub invariant-loop-index : goal.invariant-loop-index
invariant-loop-index l = record {
  sums : l.sums ≡ added l.initial.sums (map (number_at l.emission) (take l.index l.operands));
  numbers : AllByRecursion IsFieldNumber (map (number_at l.emission) (take l.index l.operands));
}
