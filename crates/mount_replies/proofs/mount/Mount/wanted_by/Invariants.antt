use Rattle.std.specs.Prelude.{List, All, take}
use Rattle.trace_command.specs.Requests.{Request}
use Rattle.mount_replies.specs.Mounted.{HasLedTo}
use Rattle.mount_replies.specs.Watches.{IsUnwantedBy}
use Rattle.mount_replies.proofs.mount.Mount.wanted_by.Given as goal

-- the instances of those before don't want it
abbrev pub invariant-loop-index : goal.invariant-loop-index
invariant-loop-index l =
    (past : List Request) → HasLedTo past l.self → All (IsUnwantedBy l.self.live.config.cpus past l.number) (take l.index l.slots)
