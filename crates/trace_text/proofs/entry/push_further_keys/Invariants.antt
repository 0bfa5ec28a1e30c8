use Rattle.std.proofs.Common.{◌≡◌, ◌++◌, codes, length, map, drop}
use Rattle.std.specs.List.{flat_map, zip}
use Rattle.trace_format.specs.Cells.{datum_of}
use Rattle.trace_text.specs.EntryText.{key_text}
use Rattle.trace_text.proofs.entry.push_further_keys.Given as goal

-- what was written and what is left to write are all
abbrev pub invariant-loop-key : goal.invariant-loop-key
invariant-loop-key l =
    l.out.items ++ flat_map (λ key. codes ", " ++ key_text key) (zip (drop (length l.yielded) l.keys) (map datum_of (drop (length l.yielded) l.values)))
    ≡ l.initial.out.items ++ flat_map (λ key. codes ", " ++ key_text key) (zip l.keys (map datum_of l.values))
