use Rattle.std.proofs.Common.{◌≡◌, Some, get_or, sym, arith, rules}
use Rattle.std.proofs.lemmas.List.{take_more_set}
use Rattle.trace_format.specs.declared.field_value.FieldValue.TheVariants.{Unsigned}
use Rattle.trace_format.specs.Cells.{datum_of}
use Rattle.trace_format.specs.Rows.{value_of}
use Rattle.trace_format.specs.Values.{text_given}
use Rattle.trace_format.proofs.LoopLemmas.{kind_more}
use Rattle.trace_format.proofs.GivenLemmas.{taken_more}
use Rattle.trace_format.proofs.from_values.take_values.Goals as goal

pub loop-i-preserved : goal.loop-i-preserved
loop-i-preserved c =
    let fields = c.args.fields.now in
    let i = c.loop-i.i in
    let kinds = c.loop-i.kinds.items in
    let values = c.loop-i.values.items in
    let given = get_or c.args.given.now i (Unsigned 0) in
    let did = c.if-not-branch.false in
    let put : value_of c.index-fields-i.result.kind (text_given given) ≡ Some (datum_of c.put_given.new.out) = c.in_ok-put_given.ensures (search rules) in
    let so_far = c.loop-i.invariant in (
      so_far.0,
      search rules,
      search rules,
      rw (take_more_set kinds i c.index-fields-i.result.kind (omega (arith, so_far.1, c.loop-i-test.true)))
          (kind_more fields i c.index-fields-i.result _ c.loop-i-test.true c.index-fields-i.is so_far.3),
      rw (take_more_set values i c.put_given.new.out (omega (arith, so_far.2, c.loop-i-test.true)))
          (taken_more fields c.args.given.now i _ _ so_far.4 c.index-fields-i.result (Unsigned 0) _ c.loop-i-test.true
          (omega (arith, so_far.0, c.loop-i-test.true)) c.index-fields-i.is (sym put)),
    )
