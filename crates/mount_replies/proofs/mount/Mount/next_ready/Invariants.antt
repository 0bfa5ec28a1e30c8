use Rattle.std.proofs.Common.{◌≡◌, false, List, take}
use Rattle.std.specs.List.{list_any}
use Rattle.trace_command.specs.Requests.{Request}
use Rattle.mount_replies.specs.Mounted.{HasLedTo, service_of, terms_of}
use Rattle.mount_replies.specs.Owed.{is_ready}
use Rattle.mount_replies.proofs.mount.Mount.next_ready.Given as goal

-- none of those before is ready
abbrev pub invariant-loop-handle : goal.invariant-loop-handle
invariant-loop-handle l =
    (past : List Request) → HasLedTo past l.self → list_any (is_ready (terms_of l.self) (service_of past l.self)) (take l.handle l.self.files) ≡ false
