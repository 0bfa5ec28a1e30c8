use Rattle.std.proofs.Common.{◌++◌, take, option_map, sym, ap, ◌∙◌, append_assoc}
use Rattle.trace_format.specs.Cells.{datum_in}
use Rattle.trace_format.specs.Decoding.{field_from}
use Rattle.record_text.specs.RecordText.{cell_text}
use Rattle.record_text.proofs.CellLemmas.{too_few, no_value, value_more, values_done}
use Rattle.record_text.proofs.record.push_cells.Goals as goal

pub loop-field-preserved : goal.loop-field-preserved
loop-field-preserved c =
    let field = c.field-item.result in
    let rest = c.loop-field.rest.now in
    let front = c.split_at.ensures.front ∙ ap (λ n. take n rest) c.size-size.ensures.size in
    let value = ap (option_map datum_in) (sym c.in-Some.is) ∙ c.value_in.ensures ∙ ap (λ bytes. field_from field.kind bytes) front in
    record {
      cells = rw (c.split_at.ensures.back, c.size-size.ensures.size)
          (value_more c.args.fields.now c.loop-field.field-index rest c.loop-field.out.items _ c.loop-field.invariant.cells field c.loop-field-test.true c.field-item.is
          (datum_in c.in-Some.value) _ (rw c.size-size.ensures.size at c.if-rest-size.false) value c.in_ok-push_cell.ensures);
      more = (
        c.loop-field.invariant.more.0 ++ cell_text field (datum_in c.in-Some.value),
        c.in_ok-push_cell.ensures ∙ ap (λ text. text ++ cell_text field (datum_in c.in-Some.value)) c.loop-field.invariant.more.1
            ∙ append_assoc _ c.loop-field.invariant.more.0 (cell_text field (datum_in c.in-Some.value)),
      );
    }

pub returns-then-rest-size-clause-cells : goal.returns-then-rest-size-clause-cells
returns-then-rest-size-clause-cells c =
    too_few c.args.fields.now c.loop-field.field-index c.loop-field.rest.now c.loop-field.out.items _ c.loop-field.invariant.cells c.field-item.result c.loop-field-test.true c.field-item.is
    (rw c.size-size.ensures.size at c.if-rest-size.true)

pub returns-in_default-clause-cells : goal.returns-in_default-clause-cells
returns-in_default-clause-cells c =
    let field = c.field-item.result in
    let rest = c.loop-field.rest.now in
    let front = c.split_at.ensures.front ∙ ap (λ n. take n rest) c.size-size.ensures.size in
    let none = ap (option_map datum_in) (sym c.in_default.is) ∙ c.value_in.ensures ∙ ap (λ bytes. field_from field.kind bytes) front in
    no_value c.args.fields.now c.loop-field.field-index rest c.loop-field.out.items _ c.loop-field.invariant.cells field c.loop-field-test.true c.field-item.is
    (rw c.size-size.ensures.size at c.if-rest-size.false) none

pub returns-clause-cells : goal.returns-clause-cells
returns-clause-cells c =
    values_done c.args.fields.now c.loop-field.field-index c.loop-field.rest.now c.loop-field.out.items _ c.loop-field.invariant.cells c.loop-field-test.false c.is_empty.result c.is_empty.ensures
