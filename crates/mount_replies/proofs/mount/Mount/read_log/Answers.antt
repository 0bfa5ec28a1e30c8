use Rattle.std.proofs.Common.{Some, ap, refl}
use Rattle.error_log.specs.Logs.{log_text}
use Rattle.mount_replies.specs.Services.{with_reading}
use Rattle.mount_replies.specs.contracts.mount.Mount.{the_view}
use Rattle.mount_replies.proofs.ToolLemmas.{tool-made, tool-refused}
use Rattle.mount_replies.proofs.mount.Mount.read_log.Goals as goal

pub returns-in-Ok-clause-told : goal.returns-in-Ok-clause-told
returns-in-Ok-clause-told c =
    let kept = rw (← c.self.view_is) at c.give_text.ensures.kept in
    rw (← c.self.view_is, kept) (λ past mounted.
    let old = the_view c.self.inside in
    tool-made past old c.args.read.handle c.args.offset c.args.read.size (Some (log_text c.args.owner old.errors)) c.in-Ok.text
    (with_reading c.args.offset c.args.read.size c.in-Ok.text c.args.read.handle old.files) c.args.read.unique c.give_text.new.out.items mounted (ap Some c.in-Ok.ensures) refl
    c.give_text.ensures.bytes)

pub returns-in-Err-clause-told : goal.returns-in-Err-clause-told
returns-in-Err-clause-told c =
    rw (← c.self.view_is) (λ past mounted.
    let old = the_view c.self.inside in
    tool-refused past old c.args.read.handle c.args.offset c.args.read.size (Some (log_text c.args.owner old.errors)) c.args.read.unique
    c.tell_error.new.out.items mounted c.tell_error.ensures.bytes)
