use Rattle.std.proofs.Common.{Some, subst}
use Rattle.trace_command.specs.Requests.{Request}
use Rattle.mount_replies.specs.UntoldAnswers.{IsAskedUntold}
use Rattle.mount_replies.specs.contracts.mount.Mount.{the_view}
use Rattle.mount_replies.proofs.AddressLemmas.{read-is}
use Rattle.mount_replies.proofs.TakeLemmas.{taking-call}
use Rattle.mount_replies.proofs.mount.Mount.ask_take.Goals as goal

pub returns : goal.returns
returns c = rw (← c.self.view_is) (λ past mounted.
    let there = rw (← c.self.view_is) at c.requires in
    subst (λ (r : Request). IsAskedUntold past (the_view c.self.inside) (record (the_view c.self.inside) { live = c.take_at.new.self }) r c.take_at.result)
    (read-is past (the_view c.self.inside) c.args.owner c.args.file c.address-address.result (Some c.args.most) mounted there c.address-address.ensures)
    (taking-call past (the_view c.self.inside) c.take_at.new.self c.address-address.result c.args.most c.take_at.result mounted c.take_at.ensures.config
    (c.take_at.ensures.call past mounted.lives)))
