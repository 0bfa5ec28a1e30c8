use Rattle.std.proofs.Common.{◌≡◌, ◌++◌, length, drop}
use Rattle.std.specs.List.{flat_map, zip}
use Rattle.trace_text.specs.EntryText.{sum_text}
use Rattle.trace_text.proofs.entry.push_sums.Given as goal

-- what was written and what is left to write are all
abbrev pub invariant-loop-name : goal.invariant-loop-name
invariant-loop-name l =
    l.out.items ++ flat_map sum_text (zip (drop (length l.yielded) l.names) (drop (length l.yielded) l.sums))
    ≡ l.initial.out.items ++ flat_map sum_text (zip l.names l.sums)
