use Rattle.std.proofs.Common.{◌∙◌}
use Rattle.command_log.proofs.PairWrites.{pair_written, pair_short}
use Rattle.command_log.proofs.chunk.Chunk.write_pairs.Goals as goal

pub loop-pair-preserved : goal.loop-pair-preserved
loop-pair-preserved c =
    let pairs = c.args.pairs.now in
    let index = c.loop-pair.pair-index in
    let pair = c.pair-item.result in
    record {
      entries = c.write_text-in-loop-pair.ensures.entries ∙ c.write_text.ensures.entries ∙ c.loop-pair.invariant.entries;
      ahead = pair_written pairs index pair c.loop-pair-test.true c.pair-item.is _ _ c.name.ensures c.value.ensures _ _ _ _ c.in_ok-write_text.ensures.ahead c.in_ok-write_text-2.ensures.ahead c.loop-pair.invariant.ahead;
      short = λ rest. c.loop-pair.invariant.short (pair_short pairs index pair c.loop-pair-test.true c.pair-item.is _ _ c.name.ensures c.value.ensures c.write_text.ensures.short c.write_text-in-loop-pair.ensures.short rest);
    }
