use Rattle.std.proofs.Common.{arith}
use Rattle.trace_format.specs.declared.field_value.FieldValue.TheVariants.{Unsigned}
use Rattle.trace_format.proofs.GivenLemmas.{written_more, all_written}
use Rattle.trace_format.proofs.from_values.written_pairs.Goals as goal

pub loop-i-preserved : goal.loop-i-preserved
loop-i-preserved c =
    let pair = c.in_ok-written_pair.ensures in (
      omega (arith, c.loop-i.invariant.0, c.loop-i-test.true, c.push_reserved.ensures.len, c.push_reserved.ensures.capacity),
      rw (c.push_reserved.ensures.items, pair, c.name_at.ensures)
          (written_more c.args.fields.now c.args.given.now c.loop-i.i (Unsigned 0) c.loop-i.pairs.items _ c.loop-i-test.true c.loop-i.invariant.1),
    )

pub returns : goal.returns
returns c = all_written c.args.fields.now c.args.given.now c.loop-i.i c.loop-i.pairs.items _ c.loop-i-test.false c.loop-i.invariant.1
