use Rattle.std.specs.Prelude.{All, take}
use Rattle.mount_replies.specs.Watches.{IsWatched}
use Rattle.mount_replies.proofs.mount.Mount.is_covered.Given as goal

-- those before wait for one of them
abbrev pub invariant-loop-index : goal.invariant-loop-index
invariant-loop-index l = All (IsWatched l.self.files l.pipes) (take l.index l.self.parked)
