use Rattle.std.proofs.Common.{◌≡◌, false, List, take}
use Rattle.std.specs.List.{list_any}
use Rattle.trace_command.specs.Requests.{Request}
use Rattle.mount_replies.specs.Mounted.{HasLedTo, service_of, terms_of}
use Rattle.mount_replies.specs.Owed.{is_due}
use Rattle.mount_replies.specs.private.DryPipes.{AreDryNow}
use Rattle.mount_replies.proofs.mount.Mount.next_due.Given as goal

-- none of those before waits no more, and the pipes that are known to be dry are
abbrev pub invariant-loop-index : goal.invariant-loop-index
invariant-loop-index l =
    ((past : List Request) → HasLedTo past l.self → list_any (is_due (terms_of l.self) (service_of past l.self)) (take l.index l.self.parked) ≡ false)
    × AreDryNow l.self l.pipes
