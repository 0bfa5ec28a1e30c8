use Rattle.std.proofs.Common.{sym}
use Rattle.command_log.proofs.PairReads.{length-pairs_in}
use Rattle.command_log.proofs.pair_refs.PairRefs.len.Goals as goal

pub returns : goal.returns
returns c = rw (← c.self.view_is) (sym (length-pairs_in c.self.inside.left c.self.inside.bytes.now))
