use Rattle.std.proofs.Common.{◌≡◌, [], ◌∷◌, ◌++◌, drop}
use Rattle.std.specs.List.{flat_map}
use Rattle.program_arguments.proofs.words.script_of.Given as goal

-- the script so far, and that of the lines that are left, are the script
abbrev pub invariant-loop-line : goal.invariant-loop-line
invariant-loop-line l =
    l.script.items ++ flat_map (λ line. line.now ++ 10 ∷ []) (drop l.line-index l.lines) ≡ flat_map (λ line. line.now ++ 10 ∷ []) l.lines
