use Rattle.trace_instance.proofs.LiveSide.{unwritten, written}
use Rattle.trace_instance.proofs.instance.Instance.write.Goals as goal

pub returns-then-reach : goal.returns-then-reach
returns-then-reach c =
    let put = c.put-put.ensures in
    written c.args.delivery.now c.args.reach c.args.self.now _ c.live_mut.result.now c.put-put.new.self c.deref.result.now c.self.view_is c.live_mut.ensures.value
    c.deref.ensures.value c.if-reach.true (c.requires.record c.if-reach.true).2 put.stands put.cpus put.pages put.page_bytes put.offers

pub returns-else-reach : goal.returns-else-reach
returns-else-reach c = unwritten c.args.delivery.now c.args.reach c.args.self.now c.if-reach.false
