use Rattle.std.proofs.Common.{take, option_map, sym, ap, ◌∙◌, arith}
use Rattle.trace_format.specs.Cells.{datum_of}
use Rattle.trace_format.specs.Decoding.{field_from}
use Rattle.trace_format.proofs.LoopLemmas.{too_few, no_value, value_more, values_done}
use Rattle.trace_format.proofs.payload.decode_values.Goals as goal

pub loop-field-preserved : goal.loop-field-preserved
loop-field-preserved c =
    let field = c.field-item.result in
    let rest = c.loop-field.rest.now in
    let front = c.split_at.ensures.front ∙ ap (λ n. take n rest) c.size-size.ensures.size in
    let value = ap (option_map datum_of) (sym c.in-Some.is) ∙ c.in_ok-value.ensures ∙ ap (λ bytes. field_from field.kind bytes) front in (
      omega (arith, c.loop-field.invariant.0, c.loop-field-test.true, c.push_reserved.ensures.len, c.push_reserved.ensures.capacity),
      rw (c.push_reserved.ensures.items, c.split_at.ensures.back, c.size-size.ensures.size)
          (value_more c.args.fields.now c.loop-field.field-index rest _ _ c.loop-field.invariant.1 field c.loop-field-test.true c.field-item.is _ (rw c.size-size.ensures.size at c.if-rest-size.false) value),
    )

pub returns-then-rest-size : goal.returns-then-rest-size
returns-then-rest-size c =
    too_few c.args.fields.now c.loop-field.field-index c.loop-field.rest.now _ _ c.loop-field.invariant.1 c.field-item.result c.loop-field-test.true c.field-item.is
    (rw c.size-size.ensures.size at c.if-rest-size.true)

pub returns-in_default : goal.returns-in_default
returns-in_default c =
    let field = c.field-item.result in
    let rest = c.loop-field.rest.now in
    let front = c.split_at.ensures.front ∙ ap (λ n. take n rest) c.size-size.ensures.size in
    let none = ap (option_map datum_of) (sym c.in_default.is) ∙ c.in_ok-value.ensures ∙ ap (λ bytes. field_from field.kind bytes) front in
    no_value c.args.fields.now c.loop-field.field-index rest _ _ c.loop-field.invariant.1 field c.loop-field-test.true c.field-item.is (rw c.size-size.ensures.size at c.if-rest-size.false) none

pub returns : goal.returns
returns c = values_done c.args.fields.now c.loop-field.field-index c.loop-field.rest.now _ _ c.loop-field.invariant.1 c.loop-field-test.false c.is_empty.result c.is_empty.ensures
