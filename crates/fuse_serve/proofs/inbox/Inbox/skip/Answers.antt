use Rattle.std.proofs.Common.{◌∙◌, ap, drop}
use Rattle.fuse_serve.proofs.InboxLemmas.{later}
use Rattle.fuse_serve.proofs.inbox.Inbox.skip.Goals as goal

pub returns : goal.returns
returns c =
    later c.self.inside.buffer.items c.self.inside.start c.self.inside.end c.args.count (rw c.self.view_is c.requires)
    ∙ ap (drop c.args.count) c.self.view_is
