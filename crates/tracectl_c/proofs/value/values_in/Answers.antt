use Rattle.std.proofs.Common.{arith}
use Rattle.tracectl_c.proofs.ValueLemmas.{value_read, no_value_read, all_read}
use Rattle.tracectl_c.proofs.value.values_in.Goals as goal

pub returns-in_default : goal.returns-in_default
returns-in_default c =
    no_value_read c.args.values.now c.loop-value.value-index c.loop-value.list.items c.loop-value.invariant.1 _ c.value_in.result c.loop-value-test.true
    c.value_in.ensures c.in_default.is

pub loop-value-preserved : goal.loop-value-preserved
loop-value-preserved c = (
  omega (arith, c.loop-value.invariant.0, c.loop-value-test.true, c.push_reserved.ensures.len, c.push_reserved.ensures.capacity),
  rw c.push_reserved.ensures.items (value_read c.args.values.now c.loop-value.value-index c.loop-value.list.items c.loop-value.invariant.1 _ c.value_in.result
      c.loop-value-test.true c.value_in.ensures c.in-Some.given c.in-Some.is),
)

pub returns : goal.returns
returns c = all_read c.args.values.now c.loop-value.value-index c.loop-value.list.items c.loop-value.invariant.1 c.loop-value-test.false
