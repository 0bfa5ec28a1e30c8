use Rattle.std.proofs.Common.{refl, subst}
use Rattle.trace_command.specs.Requests.{Request}
use Rattle.mount_replies.specs.Mounted.{IsAsked}
use Rattle.mount_replies.specs.contracts.mount.Mount.{the_view}
use Rattle.mount_replies.proofs.AddressLemmas.{asked-call, at-top, read-is}
use Rattle.mount_replies.proofs.mount.Mount.ask_read.Goals as goal

pub read_at-requires : goal.read_at-requires
read_at-requires c = at-top c.self.inside.scene c.args.owner c.args.file c.address-address.result (rw (← c.self.view_is) at c.requires) c.address-address.ensures

pub returns : goal.returns
returns c = rw (← c.self.view_is) (λ past mounted.
    let there = rw (← c.self.view_is) at c.requires in
    subst (λ (r : Request). IsAsked past (the_view c.self.inside) (record (the_view c.self.inside) { live = c.read_at.new.self }) r c.read_at.result)
    (read-is past (the_view c.self.inside) c.args.owner c.args.file c.address-address.result c.args.limit mounted there c.address-address.ensures)
    (asked-call past (the_view c.self.inside) c.read_at.new.self _ c.read_at.result mounted c.read_at.ensures.config
    (c.read_at.ensures.call past mounted.lives) refl refl refl))
