use Rattle.mount_replies.specs.contracts.mount.Mount.{the_view}
use Rattle.mount_replies.proofs.ServeLemmas.{change-served, interrupt-served, named, read-served}
use Rattle.mount_replies.proofs.mount.Mount.act.Goals as goal

pub returns-in-Read-clause-served : goal.returns-in-Read-clause-served
returns-in-Read-clause-served c = λ past mounted.
    read-served past c.args.self.now c.read.new.self c.args.request.now c.from_number-node.result c.in-Read.handle c.in-Read.offset c.in-Read.size
    c.in-Read.read_flags c.in-Read.flags c.read_of_pipe-read.result c.is_cached.result c.read.new.out.items c.in-Read.is
    (named c.args.request.now.node c.from_number-node.result c.from_number-node.ensures.found c.from_number-node.ensures.none)
    c.read_of_pipe-read.ensures c.is_cached.ensures (c.read.ensures.told past mounted)

pub returns-in-Interrupt-clause-served : goal.returns-in-Interrupt-clause-served
returns-in-Interrupt-clause-served c =
    rw (← c.self.view_is) (λ past mounted.
    interrupt-served past (the_view c.self.inside) c.args.request.now c.from_number-node.result c.in-Interrupt.unique c.interrupt.new.parked.items
    c.args.out.now.items mounted c.in-Interrupt.is
    (named c.args.request.now.node c.from_number-node.result c.from_number-node.ensures.found c.from_number-node.ensures.none)
    c.interrupt.ensures c.requires.empty)

pub returns-in_default : goal.returns-in_default
returns-in_default c = record {
  served = λ past mounted.
      change-served past c.args.self.now c.reply_to-reply.new.self c.args.request.now c.from_number-node.result c.reply_to-reply.result
      c.tell_short.new.out.items
      (named c.args.request.now.node c.from_number-node.result c.from_number-node.ensures.found c.from_number-node.ensures.none)
      (c.reply_to-reply.ensures.step past mounted) c.tell_short.ensures.bytes;
  capacity = c.tell_short.ensures.capacity;
}
