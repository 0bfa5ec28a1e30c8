use Rattle.mount_replies.specs.contracts.mount.Mount.{the_view}
use Rattle.mount_replies.proofs.PageReads.{part-left}
use Rattle.mount_replies.proofs.mount.Mount.read_raw.Goals as goal

pub returns-then-not-is_empty-clause-told : goal.returns-then-not-is_empty-clause-told
returns-then-not-is_empty-clause-told c =
    rw (← c.self.view_is) (λ past own mounted found owner file.
    rw c.if-cached.true (part-left past (the_view c.self.inside) c.args.read own c.args.flags c.rest.result.now c.is_empty.result c.tell_error.new.out.items
    mounted found c.rest.ensures c.is_empty.ensures c.if-not-is_empty.true c.tell_error.ensures.bytes))
