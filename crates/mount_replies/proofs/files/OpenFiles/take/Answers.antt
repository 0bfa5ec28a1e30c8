use Rattle.std.proofs.Common.{None, refl}
use Rattle.mount_replies.specs.Services.{has_wakeup}
use Rattle.mount_replies.proofs.FileLemmas.{none-set}
use Rattle.mount_replies.proofs.files.OpenFiles.take.Goals as goal

pub invariant_of-self : goal.invariant_of-self
invariant_of-self c = λ quiet.
    rw c.take_at.ensures.after (none-set has_wakeup c.self.inside.slots.items c.args.handle None (c.self.invariant quiet) refl)
