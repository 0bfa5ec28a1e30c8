use Rattle.std.proofs.Common.{◌≡◌, ◌+◌, ◌-◌, List, Some, length}
use Rattle.std.specs.List.{slice_get}
use Rattle.trace_command.specs.Requests.{Request}
use Rattle.trace_format.specs.Definitions.{Definition}
use Rattle.tracer_specification.specs.Settings.{declared_events}
use Rattle.mount_replies.specs.Lines.{asked_by_line}
use Rattle.mount_replies.specs.Mounted.{HasLedTo}
use Rattle.mount_replies.proofs.StreamLemmas.{StreamsSoFar}
use Rattle.mount_replies.proofs.mount.Mount.do_stream.Given as goal

-- the lines before the rest were done
abbrev pub invariant-loop-at : goal.invariant-loop-at
invariant-loop-at l = record {
  so_far : (past : List Request) (own : Definition) → HasLedTo past l.fn.self → slice_get (declared_events past) l.event ≡ Some own
      → StreamsSoFar past l.fn.self l.self (asked_by_line l.fn.self.live.config.cpus l.pid own) l.kept l.size l.from l.done l.rest l.bytes;
  together : l.from + length l.rest ≡ length l.bytes;
  done_is : l.done ≡ l.from - l.kept;
}

abbrev pub decreases-loop-at : goal.decreases-loop-at
decreases-loop-at l = length l.rest
