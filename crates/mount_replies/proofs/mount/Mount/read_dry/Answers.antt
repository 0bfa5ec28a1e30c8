use Rattle.std.proofs.Common.{[], true, false, sym, ◌∙◌}
use Rattle.fuse_wire.specs.declared.errno.Errno.TheVariants.{EAGAIN}
use Rattle.fuse_wire.specs.declared.reply.Reply.TheVariants as replies
use Rattle.mount_replies.specs.Services.{with_dry_read}
use Rattle.mount_replies.specs.contracts.mount.Mount.{the_view}
use Rattle.mount_replies.proofs.ReadLemmas.{noted-told}
use Rattle.mount_replies.proofs.mount.Mount.read_dry.Goals as goal

pub returns-then-ends-clause-told : goal.returns-then-ends-clause-told
returns-then-ends-clause-told c =
    rw (← c.self.view_is, c.if-ends.true) (λ past mounted.
    noted-told past (the_view c.self.inside) (replies.Data []) (with_dry_read true c.args.read.handle c.self.inside.files) c.note_dry_read.new.self
    c.args.read.unique c.tell_part.new.out.items mounted c.note_dry_read.ensures c.tell_part.ensures.bytes)

pub returns-then-is_nonblocking-clause-told : goal.returns-then-is_nonblocking-clause-told
returns-then-is_nonblocking-clause-told c =
    rw (← c.self-then-is_nonblocking.view_is, c.if-ends.false, sym c.is_nonblocking.ensures ∙ c.if-is_nonblocking.true) (λ past mounted.
    noted-told past (the_view c.self-then-is_nonblocking.inside) (replies.Error EAGAIN)
    (with_dry_read false c.args.read.handle c.self-then-is_nonblocking.inside.files) c.note_dry_read-then-is_nonblocking.new.self c.args.read.unique
    c.tell_error.new.out.items mounted c.note_dry_read-then-is_nonblocking.ensures c.tell_error.ensures.bytes)
