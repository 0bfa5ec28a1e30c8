use Rattle.std.proofs.Common.{◌≡◌, ◌≢◌, ◌∷◌, ℕ, List, [], length}
use Rattle.std.specs.List.{join_with_byte}
use Rattle.trace_script.specs.Lines.{write_behind}
use Rattle.trace_script.proofs.command.write_joined.Given as goal

abbrev pub invariant-loop-token : goal.invariant-loop-token
invariant-loop-token l =
    (words : List (List ℕ)) × (words ≢ []) × (l.text.items ≡ join_with_byte 32 words)
    × (write_behind words l.tokens ≡ write_behind (l.fn.first ∷ l.fn.second ∷ []) l.fn.tokens)

abbrev pub decreases-loop-token : goal.decreases-loop-token
decreases-loop-token l = length l.tokens
