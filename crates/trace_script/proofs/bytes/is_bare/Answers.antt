use Rattle.std.proofs.Common.{arith}
use Rattle.trace_script.proofs.BlockLemmas.{found_rare, past_block, last_decides}
use Rattle.trace_script.proofs.bytes.is_bare.Goals as goal

pub returns-then-rare_bits-ne0 : goal.returns-then-rare_bits-ne0
returns-then-rare_bits-ne0 c = found_rare c.loop-at.at 16 c.args.line.now c.loop-at.invariant (omega (arith, c.rare_bits.ensures))

pub loop-at-preserved : goal.loop-at-preserved
loop-at-preserved c = omega (arith, c.loop-at.invariant, past_block c.loop-at.at 16 c.args.line.now (omega (arith, c.rare_bits.ensures)))

pub returns : goal.returns
returns c = last_decides c.loop-at.at 16 c.rare_bits-2.result c.args.line.now c.loop-at.invariant (omega arith) c.rare_bits-2.ensures
