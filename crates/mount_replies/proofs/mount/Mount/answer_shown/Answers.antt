use Rattle.mount_replies.proofs.ServeLemmas.{has-led, named}
use Rattle.mount_replies.proofs.ShownServing.{plain-served, shown-served}
use Rattle.mount_replies.proofs.mount.Mount.answer_shown.Goals as goal

pub returns-in_default-clause-served : goal.returns-in_default-clause-served
returns-in_default-clause-served c = λ past mounted was.
    plain-served past c.args.self.now c.answer.new.self c.args.shown c.args.asked.now c.answer.new.reply.items (c.answer.ensures.served past mounted)

pub returns-then-not-is_of-clause-served : goal.returns-then-not-is_of-clause-served
returns-then-not-is_of-clause-served c = λ past mounted was.
    plain-served past c.args.self.now c.answer-then-not-is_of.new.self c.args.shown c.args.asked.now c.answer-then-not-is_of.new.reply.items
    (c.answer-then-not-is_of.ensures.served past mounted)

pub returns-clause-served : goal.returns-clause-served
returns-clause-served c = λ past mounted was.
    shown-served past c.args.self.now c.show.new.self c.look_after_call.new.self c.args.shown c.args.asked.now c.show.new.out.items c.in-Ok.request
    c.from_number-node.result c.text_wanted.result mounted c.requires.nothing_owed was c.in-Ok.ensures.found
    (named c.in-Ok.request.node c.from_number-node.result c.from_number-node.ensures.found c.from_number-node.ensures.none)
    c.text_wanted.ensures (c.is_of.ensures c.if-not-is_of.false) (c.show.ensures.told past (has-led past c.args.self.now mounted))
    c.look_after_call.ensures.rest c.look_after_call.ensures.owes
