use Rattle.std.proofs.Common.{◌≡◌, ◌++◌, codes, drop}
use Rattle.std.specs.List.{flat_map}
use Rattle.trace_text.specs.TriggerText.{sort_text}
use Rattle.trace_text.proofs.hist_line.push_further_sort_keys.Given as goal

-- what was written and what is left to write are all
abbrev pub invariant-loop-key : goal.invariant-loop-key
invariant-loop-key l =
    l.out.items ++ flat_map (λ key. codes "," ++ sort_text key) (drop l.key-index l.keys)
    ≡ l.initial.out.items ++ flat_map (λ key. codes "," ++ sort_text key) l.keys
