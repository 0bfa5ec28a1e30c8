use Rattle.ticket_lock.specs.Calls.{view_of}
use Rattle.shared_mount.specs.MountCallers.{HasFailed}
use Rattle.shared_mount.proofs.shared.SharedMount.draw.Goals as goal

pub returns-in-Err-clause-failed : goal.returns-in-Err-clause-failed
returns-in-Err-clause-failed c =
    let is : HasFailed (view_of c.into_pass.result) c.of.result = c.of.ensures.failed (view_of c.into_pass.result) c.in-Err.ensures.failed in
    rw c.into_pass.ensures at is
