use Rattle.trace_instance.proofs.LiveSide.{delivered_exchanged, delivered_still, taken_in}
use Rattle.trace_instance.proofs.instance.Instance.deliver.Goals as goal

pub returns-then-reach : goal.returns-then-reach
returns-then-reach c =
    let d = c.args.delivery.now in
    delivered_exchanged d c.args.reach c.args.self.now c.offer.new.self c.exchange.new.self
    (taken_in d c.args.reach c.args.self.now c.write.new.self c.offer.new.self c.write.ensures c.offer.ensures) c.if-reach.true c.exchange.ensures

pub returns-else-reach : goal.returns-else-reach
returns-else-reach c =
    let d = c.args.delivery.now in
    delivered_still d c.args.reach c.args.self.now c.offer.new.self
    (taken_in d c.args.reach c.args.self.now c.write.new.self c.offer.new.self c.write.ensures c.offer.ensures) c.if-reach.false
