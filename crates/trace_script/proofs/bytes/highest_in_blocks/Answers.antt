use Rattle.std.proofs.Common.{◌-◌, arith, length}
use Rattle.trace_script.proofs.ByteLemmas.{later_le, last_block, next_block}
use Rattle.trace_script.proofs.bytes.highest_in_blocks.Goals as goal

pub loop-at-init : goal.loop-at-init
loop-at-init c =
    let line = c.args.line.now in
    let size = c.args.size in
    let last = length line - size in
    record {
      ranked = omega (arith, c.highest_of-highest.ensures, last_block size line, later_le last 0 line (omega arith));
      last = omega (arith, c.highest_of-highest.ensures, last_block size line);
    }

pub loop-at-preserved : goal.loop-at-preserved
loop-at-preserved c =
    let block = next_block c.loop-at.at c.args.size c.args.line.now in
    record {
      ranked = omega (arith, block, c.highest_of.ensures, c.max-highest.ensures, c.loop-at.invariant.ranked);
      last = omega (arith, c.max-highest.ensures, c.loop-at.invariant.last);
    }
