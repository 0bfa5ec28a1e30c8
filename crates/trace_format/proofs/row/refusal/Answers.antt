use Rattle.std.proofs.Common.{List, [], sym, ap, ◌∙◌}
use Rattle.trace_format.specs.declared.event.Field.{Field}
use Rattle.trace_format.specs.Rows.{first_wrong, first_missing}
use Rattle.trace_format.proofs.BuildLemmas.{refused_wrong, refused_missing}
use Rattle.trace_format.proofs.row.refusal.Goals as goal

pub returns-in-Some : goal.returns-in-Some
returns-in-Some c =
    refused_wrong c.args.def.now c.args.pairs.now c.bad_row.result _ c.bad_row.ensures
    (ap (λ (fields : List Field). first_wrong fields [] c.args.pairs.now) (sym c.fields.ensures.fields) ∙ sym c.in-Some.ensures)

pub returns : goal.returns
returns c =
    refused_missing c.args.def.now c.args.pairs.now c.bad_row-in-Some-missing_field.result c.in-Some-missing_field.name.now c.bad_row-in-Some-missing_field.ensures
    (ap (λ (fields : List Field). first_wrong fields [] c.args.pairs.now) (sym c.fields.ensures.fields) ∙ sym c.in_default.ensures)
    (ap (λ (fields : List Field). first_missing fields c.args.pairs.now) (sym c.fields-2.ensures.fields) ∙ sym c.in-Some-missing_field.ensures)
