use Rattle.std.proofs.Common.{◌≡◌, ◌++◌, map, take, drop}
use Rattle.mount_replies.specs.Services.{interrupted_if}
use Rattle.mount_replies.proofs.parked.mark.Given as goal

abbrev pub invariant-loop-read : goal.invariant-loop-read
invariant-loop-read l =
    take l.read-index l.parked ++ map (interrupted_if l.unique) (drop l.read-index l.parked) ≡ map (interrupted_if l.unique) l.fn.parked
