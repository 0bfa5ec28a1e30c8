use Rattle.std.proofs.Common.{arith}
use Rattle.mount_replies.proofs.FileLemmas.{taken-back}
use Rattle.mount_replies.proofs.files.OpenFiles.take_back.Goals as goal

pub returns-then-handle-count : goal.returns-then-handle-count
returns-then-handle-count c before file many is was =
    taken-back c.args.self.now before c.put.new.self c.args.handle c.args.count file many is was (omega arith) c.put.ensures
