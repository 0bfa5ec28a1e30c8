use Rattle.std.specs.Prelude.{List, Option, IfSome, All, take}
use Rattle.trace_command.specs.Requests.{Request}
use Rattle.mount_replies.specs.Mounted.{HasLedTo}
use Rattle.mount_replies.specs.declared.dry_pipes.DryPipe.{DryPipe}
use Rattle.mount_replies.specs.private.DryPipes.{IsDryNow}
use Rattle.mount_replies.proofs.mount.Mount.are_dry.Given as goal

-- those before are dry
abbrev pub invariant-loop-index : goal.invariant-loop-index
invariant-loop-index l =
    (past : List Request) → HasLedTo past l.self → All (λ (slot : Option DryPipe). IfSome slot (IsDryNow past l.self)) (take l.index l.slots)
