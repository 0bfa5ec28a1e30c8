use Rattle.std.proofs.Common.{ℕ, List, take, subst}
use Rattle.fuse_serve.specs.private.Turns.{HasDelivered}
use Rattle.fuse_serve.proofs.service.answer_first.Goals as goal

pub returns-clause-answered : goal.returns-clause-answered
returns-clause-answered g c =
    let device = g.D.Device in record {
      reply = c.answer.new.reply.items;
      answered = subst (λ (xs : List ℕ). g.S.Server.answers c.args.server.now (take c.args.size xs) c.answer.new.self c.answer.new.reply.items) c.waiting.ensures c.answer.ensures.answers;
      delivered = subst (λ (xs : List ℕ). HasDelivered c.deliver.result xs (device.calls c.args.device.now) (device.calls c.deliver.new.device) (device.contents c.args.device.now) (device.contents c.deliver.new.device))
          c.deref.ensures.value c.deliver.ensures.delivered;
    }
