use Rattle.std.proofs.Common.{◌≡◌, ◌<◌, ◌∙◌, length, take, rules, arith}
use Rattle.std.proofs.lemmas.List.{length-set, take_more_set}
use Rattle.tracectl_c.proofs.ValueLemmas.{all_read, no_value_read, value_read}
use Rattle.tracectl_c.proofs.value.put_few.Goals as goal

pub returns-in_default-clause-none : goal.returns-in_default-clause-none
returns-in_default-clause-none c = λ is.
    no_value_read c.args.values.now c.loop-index.index (take c.loop-index.index c.loop-index.room) c.loop-index.invariant.1 _ c.value_in.result (search rules)
    c.value_in.ensures c.in_default.is

pub loop-index-preserved : goal.loop-index-preserved
loop-index-preserved c =
    let room = c.loop-index.room in
    let i = c.loop-index.index in
    let given = c.in-Some.given in
    let within : i < length c.args.values.now = search rules in
    let in_room : i < length room = omega (arith, within, c.requires, c.loop-index.invariant.0) in (
      length-set room i given ∙ c.loop-index.invariant.0,
      rw (take_more_set room i given in_room) (value_read c.args.values.now i (take i room) c.loop-index.invariant.1 _ c.value_in.result within c.value_in.ensures
          given c.in-Some.is),
    )

pub returns-clause-all : goal.returns-clause-all
returns-clause-all c = λ _.
    let reached : length c.args.values.now ≡ c.loop-index.index = omega arith in
    rw reached (all_read c.args.values.now c.loop-index.index (take c.loop-index.index c.loop-index.room) c.loop-index.invariant.1 c.loop-index-test.false)
