use Rattle.std.proofs.Common.{arith}
use Rattle.mount_replies.proofs.ShortLemmas.{short-sendable, short-size}
use Rattle.mount_replies.proofs.telling.tell_short.Goals as goal

pub tell-requires : goal.tell-requires
tell-requires c = record {
  sendable = short-sendable c.args.reply.now c.requires.short;
  room = omega (arith, short-size c.args.reply.now c.requires.short, c.requires.room);
}
