use Rattle.mount_replies.specs.private.DryPipes.{AreDryNow}
use Rattle.mount_replies.proofs.mount.Mount.dry_pipes.Given as goal

-- the pipes that are known to be dry are
abbrev pub invariant-loop-index : goal.invariant-loop-index
invariant-loop-index l = AreDryNow l.self l.pipes
