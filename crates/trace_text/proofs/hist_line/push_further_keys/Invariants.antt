use Rattle.std.proofs.Common.{◌≡◌, ◌++◌, codes, drop}
use Rattle.std.specs.List.{flat_map}
use Rattle.trace_format.specs.declared.key.Key.{Key}
use Rattle.trace_text.proofs.hist_line.push_further_keys.Given as goal

-- what was written and what is left to write are all
abbrev pub invariant-loop-key : goal.invariant-loop-key
invariant-loop-key l =
    l.out.items ++ flat_map (λ (key : Key). codes "," ++ key.written) (drop l.key-index l.keys)
    ≡ l.initial.out.items ++ flat_map (λ (key : Key). codes "," ++ key.written) l.keys
