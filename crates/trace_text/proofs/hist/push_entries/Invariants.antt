use Rattle.std.proofs.Common.{◌≡◌, ◌++◌, map, drop}
use Rattle.std.specs.List.{flat_map}
use Rattle.hist_entries.specs.PrintOrder.{row_in}
use Rattle.trace_text.specs.EntryText.{entry_line}
use Rattle.trace_text.proofs.hist.push_entries.Given as goal

-- what was written and what is left to write are all
abbrev pub invariant-loop-entry : goal.invariant-loop-entry
invariant-loop-entry l =
    l.out.items ++ flat_map (entry_line l.spec.keys l.spec.values) (map row_in (drop l.entry-index l.entries))
    ≡ l.initial.out.items ++ flat_map (entry_line l.spec.keys l.spec.values) (map row_in l.entries)
