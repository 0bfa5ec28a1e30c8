use Rattle.mount_replies.proofs.ShownServing.{other-told, read-shown}
use Rattle.mount_replies.proofs.mount.Mount.show.Goals as goal

pub returns-in-Read-clause-told : goal.returns-in-Read-clause-told
returns-in-Read-clause-told c = λ past mounted.
    read-shown past c.args.self.now c.give_text.new.self c.args.request.now.unique c.args.request.now.operation c.args.shown c.in-Read.handle
    c.in-Read.offset c.in-Read.size c.in-Read.read_flags c.in-Read.flags c.read_of_pipe-read.result c.give_text.new.out.items mounted c.in-Read.is
    c.read_of_pipe-read.ensures c.give_text.ensures.kept c.give_text.ensures.bytes

pub returns-in_default : goal.returns-in_default
returns-in_default c = record {
  told = λ past mounted.
      other-told past c.args.self.now c.tell_shown-reply-in_default.new.self c.args.request.now.unique c.args.request.now.operation c.args.shown
      c.tell_shown-reply-in_default.result c.tell_short-in_default.new.out.items c.in_default.not-Lookup c.in_default.not-Read
      (c.tell_shown-reply-in_default.ensures.step past mounted) c.tell_short-in_default.ensures.bytes;
  capacity = c.tell_short-in_default.ensures.capacity;
}
