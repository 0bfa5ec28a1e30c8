use Rattle.std.proofs.Common.{arith}
use Rattle.command_log.proofs.PairWrites.{pair_written, pair_short, all_written}
use Rattle.command_log.proofs.short.put_pairs.Goals as goal

pub loop-pair-preserved : goal.loop-pair-preserved
loop-pair-preserved c =
    let pairs = c.args.pairs.now in
    let index = c.loop-pair.pair-index in
    let pair = c.pair-item.result in
    record {
      bytes = pair_written pairs index pair c.loop-pair-test.true c.pair-item.is _ _ c.name.ensures c.value.ensures _ _ _ _ c.in_ok-end.ensures.bytes c.in_ok-end-2.ensures.bytes c.loop-pair.invariant.bytes;
      same = omega (arith, c.loop-pair.invariant.same, c.put_text.ensures.length, c.put_text-in-loop-pair.ensures.length);
      within = omega (arith, c.in_ok-end-2.ensures.end, c.put_text-in-loop-pair.ensures.length);
      short = λ rest. c.loop-pair.invariant.short (pair_short pairs index pair c.loop-pair-test.true c.pair-item.is _ _ c.name.ensures c.value.ensures c.put_text.ensures.short c.put_text-in-loop-pair.ensures.short rest);
    }

pub returns-clause-bytes : goal.returns-clause-bytes
returns-clause-bytes c = all_written c.args.pairs.now c.loop-pair.pair-index c.loop-pair-test.false _ _ c.loop-pair.invariant.bytes
