use Rattle.std.proofs.Common.{◌≡◌, Err, rules, arith}
use Rattle.trace_trigger.specs.HistMeanings.{key_in}
use Rattle.trace_trigger.proofs.EachLemmas.{each_more, each_told, each_end}
use Rattle.trace_trigger.proofs.meaning.keys_of.Goals as goal

pub returns-in_err-key_in : goal.returns-in_err-key_in
returns-in_err-key_in c =
    let out : c.from_residual-in_err-key_in.result ≡ Err c.in_err-key_in.field-0.0 = search rules in
    rw out
    (each_told (key_in c.args.fields.now) c.args.keys.now c.loop-key.key-index c.key-item.result c.in_err-key_in.field-0.0 _ _ c.loop-key-test.true c.key-item.is c.in_err-key_in.ensures
    c.loop-key.invariant.filled)

pub loop-key-preserved : goal.loop-key-preserved
loop-key-preserved c = record {
  room = omega (arith, c.loop-key.invariant.room, c.loop-key-test.true, c.push_reserved.ensures.len, c.push_reserved.ensures.capacity);
  filled = each_more (key_in c.args.fields.now) c.args.keys.now c.loop-key.key-index c.key-item.result _ _ _ _ c.loop-key-test.true c.key-item.is c.in_ok-key_in.ensures
      c.push_reserved.ensures.items c.loop-key.invariant.filled;
}

pub returns : goal.returns
returns c = each_end (key_in c.args.fields.now) c.args.keys.now c.loop-key.key-index _ _ c.loop-key-test.false c.loop-key.invariant.filled
