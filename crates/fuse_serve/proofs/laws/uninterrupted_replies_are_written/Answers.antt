use Rattle.fuse_serve.proofs.ReplyLemmas.{all_written}
use Rattle.fuse_serve.proofs.laws.uninterrupted_replies_are_written.Goals as goal

pub returns : goal.returns
returns c = all_written
