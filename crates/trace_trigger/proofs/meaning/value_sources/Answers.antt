use Rattle.std.proofs.Common.{◌≡◌, Err, sym, rules, arith}
use Rattle.trace_trigger.specs.HistMeanings.{value_source}
use Rattle.trace_trigger.proofs.EachLemmas.{each_more, each_at_fault, each_end}
use Rattle.trace_trigger.proofs.meaning.value_sources.Goals as goal

pub returns-in_err-value_source : goal.returns-in_err-value_source
returns-in_err-value_source c =
    let out : c.from_residual-in_err-value_source.result ≡ Err c.in_err-value_source.field-0.0 = search rules in
    rw out
    (each_at_fault (value_source c.args.fields.now) c.args.values.now c.loop-value.value-index c.value-item.result c.in_err-value_source.field-0.0 _ _ c.loop-value-test.true c.value-item.is (sym c.in_err-value_source.ensures)
    c.loop-value.invariant.filled)

pub loop-value-preserved : goal.loop-value-preserved
loop-value-preserved c = record {
  room = omega (arith, c.loop-value.invariant.room, c.loop-value-test.true, c.push_reserved.ensures.len, c.push_reserved.ensures.capacity);
  filled = each_more (value_source c.args.fields.now) c.args.values.now c.loop-value.value-index c.value-item.result _ _ _ _ c.loop-value-test.true c.value-item.is (sym c.in_ok-value_source.ensures)
      c.push_reserved.ensures.items c.loop-value.invariant.filled;
}

pub returns : goal.returns
returns c = each_end (value_source c.args.fields.now) c.args.values.now c.loop-value.value-index _ _ c.loop-value-test.false c.loop-value.invariant.filled
