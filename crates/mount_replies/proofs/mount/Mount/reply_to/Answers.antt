use Rattle.mount_replies.proofs.mount.Mount.reply_to.Goals as goal

pub write-requires : goal.write-requires
write-requires c = rw c.as_slice-in-Write.ensures (rw c.in-Write.is at c.requires.few)
