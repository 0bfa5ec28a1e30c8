use Rattle.std.proofs.Common.{Ok, sym, ap, ◌∙◌}
use Rattle.trace_instance.specs.LateReplies.{reply_of}
use Rattle.trace_instance.specs.declared.late_reply.LateReply.{LateReply}
use Rattle.mount_replies.specs.contracts.mount.Mount.{the_view}
use Rattle.mount_replies.proofs.AddressLemmas.{read-is}
use Rattle.mount_replies.proofs.ShownServing.{copied-live}
use Rattle.mount_replies.proofs.mount.Mount.copy_shown.Goals as goal

pub returns-in-Ok : goal.returns-in-Ok
returns-in-Ok c =
    let there = rw (← c.self.view_is) at c.requires in
    rw (← c.self.view_is) (λ past mounted.
    copied-live past (the_view c.self.inside) c.args.owner c.args.file _ (reply_of c.in-Ok.prepared.late) mounted
    (read-is past (the_view c.self.inside) c.args.owner c.args.file c.address-address.result _ mounted there c.address-address.ensures)
    (c.in-Ok.ensures.prepared past mounted.lives).0 c.in-Ok.ensures.room
    ∙ ap (λ (late : LateReply). Ok (reply_of late)) (sym c.replace.ensures.value))
