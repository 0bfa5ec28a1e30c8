use Rattle.command_log.specs.EntryDecoding.{after_pairs}
use Rattle.command_log.proofs.PairReads.{pair_passed}
use Rattle.command_log.proofs.decode.Reader.pairs.Goals as goal

pub loop-index-preserved : goal.loop-index-preserved
loop-index-preserved c =
    let count = c.args.count in
    rw c.pair-pair.ensures.left
    (pair_passed c.loop-index.self (after_pairs count c.args.self.now) count c.loop-index._index c.loop-index-test.true c.loop-index.invariant)
