use Rattle.std.proofs.Common.{◌≡◌, ◌++◌, codes, drop}
use Rattle.std.specs.List.{flat_map}
use Rattle.trace_text.proofs.hist_line.push_further_names.Given as goal

-- what was written and what is left to write are all
abbrev pub invariant-loop-name : goal.invariant-loop-name
invariant-loop-name l =
    l.out.items ++ flat_map (λ name. codes "," ++ name) (drop l.name-index l.names)
    ≡ l.initial.out.items ++ flat_map (λ name. codes "," ++ name) l.names
