use Rattle.std.proofs.Common.{rules, ◌≡◌, List, [], map, filter_map, None, false, sym, ap, ◌∙◌, subst, true≢false}
use Rattle.std.specs.List.{AllZip}
use Rattle.trace_format.specs.declared.event.Field.{Field}
use Rattle.trace_format.specs.declared.kind.Kind.{Kind}
use Rattle.trace_format.specs.declared.pair.Pair.{Pair}
use Rattle.trace_format.specs.Definitions.{Definition}
use Rattle.trace_format.specs.Cells.{Datum, datum_of, Holds, kinds_of}
use Rattle.trace_format.specs.Rows.{all_new, first_missing, given}
use Rattle.trace_format.proofs.BuildLemmas.{row_held, row_ok}
use Rattle.trace_format.proofs.NewFields.{right_if_new, new_if_right}
use Rattle.trace_format.proofs.row.fill_by_name.Goals as goal

-- what was found for the fields was found for the event
record AreGiven (fields : List Field) (pairs : List Pair) (kinds : List Kind) (values : List Datum) : Type 0 where
  kinds_are : kinds ≡ map (λ (f : Field). f.kind) fields
  values_are : values ≡ filter_map (given pairs) fields
  none_missing : first_missing fields pairs ≡ None

for_event : (definition : Definition) (fields : List Field) (pairs : List Pair) (kinds : List Kind) (values : List Datum) → fields ≡ definition.fields
    → AreGiven fields pairs kinds values → AreGiven definition.fields pairs kinds values
for_event definition fields pairs kinds values are found = subst (λ (fs : List Field). AreGiven fs pairs kinds values) are found

held : (definition : Definition) (pairs : List Pair) (kinds : List Kind) (values : List Datum) → AreGiven definition.fields pairs kinds values → AllZip Holds kinds values
held definition pairs kinds values found =
    subst (λ k. AllZip Holds k values) (sym found.kinds_are)
    (subst (λ v. AllZip Holds (kinds_of definition) v) (sym found.values_are) (row_held definition.fields pairs found.none_missing))

pub refusal-requires-then-not-are_new : goal.refusal-requires-then-not-are_new
refusal-requires-then-not-are_new c right =
    let new : false ≡ all_new c.args.def.now.fields [] c.args.pairs.now = c.if-not-are_new.ensures ∙ ap (λ (fields : List Field). all_new fields [] c.args.pairs.now) c.fields-fields.ensures.fields in
    absurd (true≢false (sym (new_if_right c.args.def.now.fields [] c.args.pairs.now right) ∙ sym new))

pub returns-clause-row : goal.returns-clause-row
returns-clause-row c =
    let found = for_event c.args.def.now c.fields-fields.result.now c.args.pairs.now c.fill_kinds.new.kinds.items (map datum_of c.given_values.new.values.items)
    c.fields-fields.ensures.fields (record { kinds_are = c.in_ok-fill_kinds.ensures; values_are = search rules; none_missing = search rules }) in
    record { kinds = found.kinds_are; values = held c.args.def.now c.args.pairs.now _ _ found }

pub returns-clause-exact : goal.returns-clause-exact
returns-clause-exact c =
    let definition = c.args.def.now in
    let pairs = c.args.pairs.now in
    let found = for_event definition c.fields-fields.result.now pairs c.fill_kinds.new.kinds.items (map datum_of c.given_values.new.values.items)
    c.fields-fields.ensures.fields (record { kinds_are = c.in_ok-fill_kinds.ensures; values_are = search rules; none_missing = search rules }) in
    let new = ap (λ (fields : List Field). all_new fields [] pairs) (sym c.fields-fields.ensures.fields) ∙ sym c.if-not-are_new.ensures in
    row_ok definition pairs c.fill_kinds.new.kinds.items (map datum_of c.given_values.new.values.items)
    (right_if_new definition.fields [] pairs found.none_missing new) found.none_missing found.kinds_are found.values_are
