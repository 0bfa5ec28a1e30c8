use Rattle.std.proofs.Common.{arith}
use Rattle.trace_script.proofs.PrefixLemmas.{run_more, run_low, run_end, run_out}
use Rattle.trace_script.proofs.prefix.stop_bytewise.Goals as goal

pub loop-at-preserved : goal.loop-at-preserved
loop-at-preserved c =
    let more = run_more c.args.end c.loop-at.at c.args.text.now c.loop-at-test.true c.if-text-at-gt32.true c.if-text-at.true in
    record { counted = omega (arith, more, c.loop-at.invariant.counted); within = omega arith }

pub returns-else-text-at-gt32 : goal.returns-else-text-at-gt32
returns-else-text-at-gt32 c =
    omega (arith, c.loop-at.invariant.counted, run_low c.args.end c.loop-at.at c.args.text.now c.loop-at-test.true c.if-text-at-gt32.false)

pub returns-else-text-at : goal.returns-else-text-at
returns-else-text-at c =
    omega (arith, c.loop-at.invariant.counted, run_end c.args.end c.loop-at.at c.args.text.now c.loop-at-test.true c.if-text-at.false)

pub returns-after-loop-at : goal.returns-after-loop-at
returns-after-loop-at c = omega (arith, c.loop-at.invariant.counted, run_out c.args.end c.loop-at.at c.args.text.now c.loop-at-test.false)
