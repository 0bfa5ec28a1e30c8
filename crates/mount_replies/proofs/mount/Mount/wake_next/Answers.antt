use Rattle.std.proofs.Common.{sym}
use Rattle.mount_replies.specs.Mounted.{service_of, terms_of}
use Rattle.mount_replies.specs.contracts.mount.Mount.{the_view}
use Rattle.mount_replies.proofs.OwedLemmas.{has-wakeup}
use Rattle.mount_replies.proofs.mount.Mount.wake_next.Goals as goal

pub returns-in_default-wakeup-clause-told : goal.returns-in_default-wakeup-clause-told
returns-in_default-wakeup-clause-told c =
    let first = rw (← c.self.view_is) at c.in-Some.ensures in
    rw (← c.self.view_is) (λ past handle mounted ready.
    absurd (has-wakeup (terms_of (the_view c.self.inside)) (service_of past (the_view c.self.inside)) c.self.inside.files c.in-Some.handle (sym (first past mounted)) (sym c.in_default-wakeup.ensures)))
