use Rattle.std.proofs.Common.{sym, ◌∙◌}
use Rattle.mount_replies.specs.contracts.mount.Mount.{the_view}
use Rattle.mount_replies.proofs.QuietLemmas.{stayed}
use Rattle.mount_replies.proofs.ServeLemmas.{acted, has-led, looked}
use Rattle.mount_replies.proofs.mount.Mount.serve.Goals as goal

pub returns-then-not-changes-clause-served : goal.returns-then-not-changes-clause-served
returns-then-not-changes-clause-served c = λ past mounted.
    looked past c.args.self.now c.args.request.now c.look.new.out.items mounted
    (c.look.ensures.served past (has-led past c.args.self.now mounted))

pub returns-then-may_owe-clause-served : goal.returns-then-may_owe-clause-served
returns-then-may_owe-clause-served c = λ past mounted.
    acted past c.args.self.now c.act.new.self c.look_for_owed.new.self c.args.request.now c.act.new.out.items
    (c.act.ensures.served past (has-led past c.args.self.now mounted)) c.look_for_owed.ensures.rest c.look_for_owed.ensures.owes

pub returns-else-may_owe-clause-served : goal.returns-else-may_owe-clause-served
returns-else-may_owe-clause-served c = λ past mounted.
    stayed past c.args.self.now (the_view c.self.inside) c.args.request.now c.act.new.out.items mounted c.requires.nothing_owed
    (sym c.may_owe.ensures ∙ c.if-may_owe.false)
    (rw c.self.view_is (c.act.ensures.served past (has-led past c.args.self.now mounted)))
