use Rattle.mount_replies.proofs.FileLemmas.{none-opened}
use Rattle.mount_replies.proofs.files.OpenFiles.open.Goals as goal

pub invariant_of-self-2 : goal.invariant_of-self-2
invariant_of-self-2 c = λ quiet.
    rw c.in_ok-add_at.ensures.ok
    (none-opened c.self.inside.slots.items c.free_handle-handle.result c.args.file (c.self.invariant quiet) c.requires)
