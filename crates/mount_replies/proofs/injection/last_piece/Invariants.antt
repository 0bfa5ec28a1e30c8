use Rattle.std.proofs.Common.{◌≡◌, ◌≤◌, length}
use Rattle.mount_replies.specs.Lines.{last_piece, pieces_of}
use Rattle.mount_replies.proofs.injection.last_piece.Given as goal

-- what follows the last newline is still there
abbrev pub invariant-loop-at : goal.invariant-loop-at
invariant-loop-at l = record {
  within : length l.rest ≤ length l.bytes;
  still : last_piece (pieces_of l.rest) ≡ last_piece (pieces_of l.bytes);
}

abbrev pub decreases-loop-at : goal.decreases-loop-at
decreases-loop-at l = length l.rest
