use Rattle.mount_replies.specs.contracts.mount.Mount.{the_view}
use Rattle.mount_replies.proofs.OwedLemmas.{interrupted-replying, read-replying}
use Rattle.mount_replies.proofs.mount.Mount.answer_parked.Goals as goal

pub returns-then-read-clause-told : goal.returns-then-read-clause-told
returns-then-read-clause-told c =
    let within = rw (← c.self.view_is) at c.requires.within in
    rw (← c.self.view_is) (λ past mounted first.
    interrupted-replying past (the_view c.self.inside) c.args.index c.remove-read.result c.remove-read.new.self.items c.note_dry_read.new.self
    c.tell_error.new.out.items mounted within c.remove-read.ensures.value c.remove-read.ensures.items c.note_dry_read.ensures c.if-read.true
    c.tell_error.ensures.bytes)

pub returns-else-read-clause-told : goal.returns-else-read-clause-told
returns-else-read-clause-told c =
    let within = rw (← c.self.view_is) at c.requires.within in
    rw (← c.self.view_is) (λ past mounted first.
    read-replying past (the_view c.self.inside) c.read.new.self c.args.index c.remove-read.result c.remove-read.new.self.items c.read.new.out.items
    within c.remove-read.ensures.value c.remove-read.ensures.items c.if-read.false first
    (c.read.ensures.told past (record { lives = mounted.lives; scene = mounted.scene })))
