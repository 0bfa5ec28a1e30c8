use Rattle.std.proofs.Common.{◌≡◌, ◌≤◌, ◌+◌, List, length}
use Rattle.trace_command.specs.Requests.{Request}
use Rattle.mount_replies.specs.Lines.{command_lines, pieces_of}
use Rattle.mount_replies.specs.Mounted.{HasLedTo}
use Rattle.mount_replies.specs.private.LineRuns.{StaysThere, target_command}
use Rattle.mount_replies.proofs.CommandLemmas.{IsUnderWay}
use Rattle.mount_replies.proofs.mount.Mount.do_command_lines.Given as goal

-- the lines that are left are those of `rest`, before which so many bytes are, and what doing these comes to is what doing all does
abbrev pub invariant-loop-at : goal.invariant-loop-at
invariant-loop-at l = record {
  parts : l.from + length l.rest ≡ length l.bytes;
  few : l.done ≤ l.from;
  stays : StaysThere l.initial.self.scene l.self.scene l.target.owner l.target.file;
  way : (past : List Request) → HasLedTo past l.initial.self
      → IsUnderWay past l.initial.self l.self
      (command_lines (target_command l.initial.self.scene l.target) l.target.append (length l.bytes) 0 (pieces_of l.bytes)) l.done
      (command_lines (target_command l.initial.self.scene l.target) l.append (length l.bytes) l.from (pieces_of l.rest));
}

abbrev pub decreases-loop-at : goal.decreases-loop-at
decreases-loop-at l = length l.rest
