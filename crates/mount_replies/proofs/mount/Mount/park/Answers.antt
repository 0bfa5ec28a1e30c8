use Rattle.mount_replies.specs.contracts.mount.Mount.{the_view}
use Rattle.mount_replies.proofs.Steps.{unparked-told}
use Rattle.mount_replies.proofs.mount.Mount.park.Goals as goal

pub returns-in_default-clause-told : goal.returns-in_default-clause-told
returns-in_default-clause-told c =
    rw (← c.self.view_is) (λ past mounted.
    unparked-told past (the_view c.self.inside) c.args.read c.add.new.parked.items c.args.read.unique c.tell_error.new.out.items mounted
    c.in_default.ensures.err c.tell_error.ensures.bytes)
