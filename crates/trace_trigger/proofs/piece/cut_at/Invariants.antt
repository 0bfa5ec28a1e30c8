use Rattle.std.proofs.Common.{◌≡◌, ◌+◌, ◌-◌, ◌≤◌, ◌++◌, length, drop}
use Rattle.trace_trigger.specs.HistPieces.{pieces_of}
use Rattle.trace_trigger.proofs.piece.cut_at.Given as goal

-- the parts found so far, and those of the rest, are the parts of the whole
abbrev pub invariant-loop-pieces : goal.invariant-loop-pieces
invariant-loop-pieces l =
    (l.from ≤ length l.text)
    × (l.pieces.items ++ pieces_of l.separator (l.at + l.from) (drop l.from l.text) ≡ pieces_of l.separator l.at l.text)

abbrev pub decreases-loop-pieces : goal.decreases-loop-pieces
decreases-loop-pieces l = length l.text - l.from
