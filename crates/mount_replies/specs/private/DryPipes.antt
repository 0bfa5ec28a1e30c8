-- Pipes that are known to be dry while the reads that wait are looked at.
use Rattle.std.specs.Prelude.{◌≡◌, true, List, Option, IfSome, All}
use Rattle.trace_command.specs.Requests.{Request}
use Rattle.tracer_specification.specs.Settings.{is_tracing}
use Rattle.mount_tree.specs.NodePaths.{owner_name}
use Rattle.mount_replies.specs.Mounted.{HasLedTo, MountSeen, service_of, terms_of}
use Rattle.mount_replies.specs.Pipes.{is_dry}
use Rattle.mount_replies.specs.declared.dry_pipes.DryPipe.{DryPipe}

-- no record waits in it after these requests, and whether its instance records any is as it says
abbrev pub IsDryNow : List Request → MountSeen → DryPipe → Type 0
IsDryNow past mount pipe =
    (is_dry (terms_of mount) (service_of past mount) pipe.owner pipe.file ≡ true)
    × (pipe.tracing ≡ is_tracing (owner_name mount.scene pipe.owner) past)

-- the pipe of each slot is dry now
abbrev pub AreDryNow : MountSeen → List (Option DryPipe) → Type 0
AreDryNow mount slots = (past : List Request) → HasLedTo past mount → All (λ (slot : Option DryPipe). IfSome slot (IsDryNow past mount)) slots
