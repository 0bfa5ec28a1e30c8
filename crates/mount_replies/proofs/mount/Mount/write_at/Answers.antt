use Rattle.std.proofs.Common.{◌≡◌, None, refl, subst, sym}
use Rattle.trace_command.specs.Requests.{Request}
use Rattle.tracer_specification.specs.Settings.{declares}
use Rattle.mount_replies.specs.Mounted.{IsAsked}
use Rattle.mount_replies.specs.contracts.mount.Mount.{the_view}
use Rattle.mount_replies.proofs.AddressLemmas.{asked-call, at-top, write-is}
use Rattle.mount_replies.proofs.mount.Mount.write_at.Goals as goal

pub write_at-requires : goal.write_at-requires
write_at-requires c = at-top c.self.inside.scene c.args.owner c.args.file c.address-address.result (rw (← c.self.view_is) at c.requires) c.address-address.ensures

pub returns-clause-asked : goal.returns-clause-asked
returns-clause-asked c = rw (← c.self.view_is) (λ past mounted adds.
    let there = rw (← c.self.view_is) at c.requires in
    let same = write-is past (the_view c.self.inside) c.args.owner c.args.file c.address-address.result c.args.append c.args.text.now mounted there c.address-address.ensures in
    subst (λ (r : Request). IsAsked past (the_view c.self.inside) (record (the_view c.self.inside) { live = c.write_at.new.self }) r c.write_at.result) same
    (asked-call past (the_view c.self.inside) c.write_at.new.self _ c.write_at.result mounted c.write_at.ensures.config
    (c.write_at.ensures.call past mounted.lives) refl refl (subst (λ (r : Request). declares r ≡ None) (sym same) adds)))
