use Rattle.std.proofs.Common.{ℕ, List, subst}
use Rattle.fuse_serve.specs.private.Turns.{HasDelivered}
use Rattle.fuse_serve.proofs.service.tell_next.Goals as goal

pub returns-clause-answered : goal.returns-clause-answered
returns-clause-answered g c =
    let device = g.D.Device in record {
      reply = c.tell_owed.new.reply.items;
      answered = c.tell_owed.ensures.answers;
      delivered = subst (λ (xs : List ℕ). HasDelivered c.deliver.result xs (device.calls c.args.device.now) (device.calls c.deliver.new.device) (device.contents c.args.device.now) (device.contents c.deliver.new.device))
          c.deref.ensures.value c.deliver.ensures.delivered;
    }
