use Rattle.std.proofs.Common.{IfSome, subst}
use Rattle.mount_replies.specs.ShownTexts.{IsCopied}
use Rattle.shared_mount.specs.LiveMountSeen.{LiveMountSeen}
use Rattle.shared_mount.specs.MountEntries.{done_in}
use Rattle.shared_mount.proofs.live_mount.LiveMount.copy_wanted.Goals as goal

pub returns-clause-copied : goal.returns-clause-copied
returns-clause-copied c =
    subst (λ (s : LiveMountSeen). IfSome c.copy_wanted.result (IsCopied s.terms.mount (done_in s.entries))) c.self.view_is
    (c.copy_wanted.ensures (done_in c.self.inside.past.items) c.self.invariant.mounted)
