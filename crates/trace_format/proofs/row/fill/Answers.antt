use Rattle.std.proofs.Common.{rules, ◌≡◌, List, Some, Result, Ok, ℕ, map, sym, ap, ◌∙◌, subst}
use Rattle.std.specs.List.{AllZip}
use Rattle.trace_format.specs.declared.bad_row.BadRow.{BadRow}
use Rattle.trace_format.specs.declared.kind.Kind.{Kind}
use Rattle.trace_format.specs.declared.event.Field.{Field}
use Rattle.trace_format.specs.declared.pair.Pair.{Pair}
use Rattle.trace_format.specs.Definitions.{Definition}
use Rattle.trace_format.specs.Cells.{Cells, Datum, Holds, datum_of}
use Rattle.trace_format.specs.private.InOrder.{values_in_order}
use Rattle.trace_format.proofs.OrderLemmas.{held_in_order, row_in_order}
use Rattle.trace_format.proofs.row.fill.Goals as goal

-- what was found for the fields was found for the event
record AreOrdered (fields : List Field) (pairs : List Pair) (kinds : List Kind) (values : List Datum) : Type 0 where
  kinds_are : kinds ≡ map (λ (f : Field). f.kind) fields
  in_order : values_in_order fields pairs ≡ Some values

for_event : (definition : Definition) (fields : List Field) (pairs : List Pair) (kinds : List Kind) (values : List Datum) → fields ≡ definition.fields
    → AreOrdered fields pairs kinds values → AreOrdered definition.fields pairs kinds values
for_event definition fields pairs kinds values are found = subst (λ (fs : List Field). AreOrdered fs pairs kinds values) are found

pub returns-then-branch-clause-row : goal.returns-then-branch-clause-row
returns-then-branch-clause-row c =
    let definition = c.args.def.now in
    let values = map datum_of c.read_in_order.new.values.items in
    let found = for_event definition c.fields-fields.result.now c.args.pairs.now c.read_in_order.new.kinds.items values
    c.fields-fields.ensures.fields (record { kinds_are = search rules; in_order = search rules }) in
    record {
      kinds = found.kinds_are;
      values = subst (λ (ks : List Kind). AllZip Holds ks values) (sym found.kinds_are) (held_in_order definition c.fields-fields.ensures.definition c.args.pairs.now values found.in_order);
    }

pub returns-then-branch-clause-exact : goal.returns-then-branch-clause-exact
returns-then-branch-clause-exact c =
    let definition = c.args.def.now in
    let values = map datum_of c.read_in_order.new.values.items in
    let found = for_event definition c.fields-fields.result.now c.args.pairs.now c.read_in_order.new.kinds.items values
    c.fields-fields.ensures.fields (record { kinds_are = search rules; in_order = search rules }) in
    row_in_order definition c.fields-fields.ensures.definition c.args.pairs.now values found.in_order
    ∙ ap (λ (ks : List Kind). built (record { kinds = ks; values = values })) (sym found.kinds_are)
  where
    built : Cells → Result Cells BadRow
    built row = Ok row
