use Rattle.fuse_serve.proofs.ReplyLemmas.{one_write_each, whole_writes_end}
use Rattle.fuse_serve.proofs.laws.replies_are_single_writes.Goals as goal

pub returns-clause-single : goal.returns-clause-single
returns-clause-single c = one_write_each

pub returns-clause-last : goal.returns-clause-last
returns-clause-last c = whole_writes_end
