use Rattle.std.proofs.Common.{sym}
use Rattle.mount_replies.proofs.OwedLemmas.{reply-called, wake-called}
use Rattle.mount_replies.proofs.ServeLemmas.{has-led}
use Rattle.mount_replies.proofs.mount.Mount.tell_owed.Goals as goal
use Rattle.mount_replies.proofs.mount.Mount.tell_owed.Goals.{in-Some, in-None}

pub returns-clause-told : goal.returns-clause-told
returns-clause-told c = λ past mounted.
    let led = has-led past c.args.self.now mounted in
    elim c.match-next_due.branch [
      | in-Some w ↦
          reply-called past c.args.self.now c.match-next_due.self c.look_for_owed.new.self w.in-Some.index c.match-next_due.reply.items
          (w.in-Some.ensures.is past led)
          (rw (w.self-is, w.reply-is) (w.answer_parked.ensures.told past led (sym (w.in-Some.ensures.is past led))))
          c.look_for_owed.ensures.rest c.look_for_owed.ensures.owes
      | in-None w ↦
          wake-called past c.args.self.now c.match-next_due.self c.look_for_owed.new.self c.match-next_due.reply.items mounted c.requires.owes
          (w.in-None.ensures.is past led) (λ handle ready. rw (w.self-is, w.reply-is) (w.wake_next.ensures.told past handle led ready))
          c.look_for_owed.ensures.rest c.look_for_owed.ensures.owes
    ]
