use Rattle.std.proofs.Common.{◌≡◌, true, false, sym, ◌∙◌}
use Rattle.mount_replies.specs.Services.{has_wakeup}
use Rattle.mount_replies.proofs.FileLemmas.{none-set}
use Rattle.mount_replies.proofs.files.OpenFiles.put.Goals as goal
use Rattle.mount_replies.proofs.files.OpenFiles.put.Goals.{then-self, else-self}

pub invariant_of-self : goal.invariant_of-self
invariant_of-self c = λ quiet. elim c.if-self.branch [
  | then-self w ↦ absurd (let wrong : true ≡ false = sym w.if-self.true ∙ sym w.self-is ∙ quiet in cc)
  | else-self w ↦ rw c.put_at.ensures (
      none-set has_wakeup c.self.inside.slots.items c.args.handle c.args.file (c.self.invariant w.if-self.false)
      (sym c.has_wakeup-wakes.ensures ∙ sym w.self-is ∙ quiet))
]
