use Rattle.std.proofs.Common.{◌≡◌, true, sym}
use Rattle.mount_replies.specs.private.StillReplies.{is_still}
use Rattle.mount_replies.proofs.ServeLemmas.{list-served, named, still-left, still-served}
use Rattle.mount_replies.proofs.mount.Mount.look.Goals as goal

pub returns-in-ReadDir-clause-served : goal.returns-in-ReadDir-clause-served
returns-in-ReadDir-clause-served c = λ past mounted.
    list-served past c.args.self.now c.args.request.now c.from_number-node.result c.in-ReadDir.handle c.in-ReadDir.offset c.in-ReadDir.size
    c.read_folder.new.out.items mounted c.in-ReadDir.is
    (named c.args.request.now.node c.from_number-node.result c.from_number-node.ensures.found c.from_number-node.ensures.none)
    c.read_folder.ensures.bytes

pub returns-in_default : goal.returns-in_default
returns-in_default c =
    let still : is_still c.args.request.now.operation ≡ true =
    still-left c.args.request.now.operation (sym c.requires.still) c.in_default.not-ReadDir c.in_default.not-Forget c.in_default.not-BatchForget in
    record {
      served = λ past mounted.
          still-served past c.args.self.now c.args.request.now c.from_number-node.result c.reply_about-reply.result c.tell_short.new.out.items mounted
          still (named c.args.request.now.node c.from_number-node.result c.from_number-node.ensures.found c.from_number-node.ensures.none)
          c.reply_about-reply.ensures.reply c.tell_short.ensures.bytes;
      capacity = c.tell_short.ensures.capacity;
    }
