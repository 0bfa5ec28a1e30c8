use Rattle.std.proofs.Common.{rules, ◌≡◌, List, ℕ, Option, map, None, Some, sym, ap, ◌∙◌, subst}
use Rattle.std.specs.List.{AllZip}
use Rattle.trace_format.specs.declared.event.Field.{Field}
use Rattle.trace_format.specs.declared.kind.Kind.{Kind}
use Rattle.trace_format.specs.Definitions.{Definition}
use Rattle.trace_format.specs.Cells.{Datum, Cells, datum_of, Holds, kinds_of}
use Rattle.trace_format.specs.Decoding.{values_from}
use Rattle.trace_format.proofs.Payloads.{are_bytes, decoded, not_decoded, decoded_exactly, not_decoded_exactly, values-read}
use Rattle.trace_format.proofs.Patterns.{AreBytes}
use Rattle.trace_format.proofs.FieldNames.{stand_by_name}
use Rattle.trace_format.proofs.row.Row.decode_in.Goals as goal

-- what was found for the fields was found for the event
module _ (definition : Definition) (fields : List Field) (are : fields ≡ definition.fields) where
  kinds_are : (kinds : List Kind) → kinds ≡ map (λ (f : Field). f.kind) fields → kinds ≡ kinds_of definition
  kinds_are kinds filled = filled ∙ ap (λ (fields : List Field). map (λ (f : Field). f.kind) fields) are

  values_are : (bytes : List ℕ) (found : Option (List Datum)) → found ≡ values_from (map (λ (f : Field). f.kind) fields) bytes → values_from (kinds_of definition) bytes ≡ found
  values_are bytes found read = sym (read ∙ ap (λ (fields : List Field). values_from (map (λ (f : Field). f.kind) fields) bytes) are)

  row_held : (bytes : List ℕ) (values : List Datum) (kinds : List Kind) → AreBytes bytes → kinds ≡ map (λ (f : Field). f.kind) fields → Some values ≡ values_from (map (λ (f : Field). f.kind) fields) bytes
      → AllZip Holds kinds values
  row_held bytes values kinds bytes_are filled read =
      subst (λ k. AllZip Holds k values) (sym (kinds_are kinds filled)) (values-read (kinds_of definition) bytes values bytes_are (values_are bytes (Some values) read)).held

pub returns-then-not-branch-clause-row : goal.returns-then-not-branch-clause-row
returns-then-not-branch-clause-row c row =
    not_decoded c.args.def.now c.args.bytes.now row (values_are c.args.def.now c.fields-fields.result.now c.fields-fields.ensures.fields c.args.bytes.now None (search rules))

pub returns-then-not-branch-clause-exact : goal.returns-then-not-branch-clause-exact
returns-then-not-branch-clause-exact c =
    not_decoded_exactly c.args.def.now c.args.bytes.now (values_are c.args.def.now c.fields-fields.result.now c.fields-fields.ensures.fields c.args.bytes.now None (search rules))

pub row_in-requires : goal.row_in-requires
row_in-requires c =
    row_held c.args.def.now c.fields-fields.result.now c.fields-fields.ensures.fields c.args.bytes.now (map datum_of c.decode_values.new.values.items) c.fill_kinds.new.kinds.items
    (are_bytes c.args.bytes.now c.type_inv.bytes) c.in_ok-fill_kinds.ensures (search rules)

pub returns-clause-row : goal.returns-clause-row
returns-clause-row c =
    let definition = c.args.def.now in
    let values = map datum_of c.decode_values.new.values.items in
    rw c.row_in.ensures (λ row.
    decoded definition c.args.bytes.now c.fill_kinds.new.kinds.items values row (are_bytes c.args.bytes.now c.type_inv.bytes)
    (kinds_are definition c.fields-fields.result.now c.fields-fields.ensures.fields c.fill_kinds.new.kinds.items c.in_ok-fill_kinds.ensures)
    (values_are definition c.fields-fields.result.now c.fields-fields.ensures.fields c.args.bytes.now (Some values) (search rules)))

pub returns-clause-exact : goal.returns-clause-exact
returns-clause-exact c =
    let definition = c.args.def.now in
    let values = map datum_of c.decode_values.new.values.items in
    rw c.row_in.ensures (decoded_exactly definition c.args.bytes.now c.fill_kinds.new.kinds.items values
    (kinds_are definition c.fields-fields.result.now c.fields-fields.ensures.fields c.fill_kinds.new.kinds.items c.in_ok-fill_kinds.ensures)
    (values_are definition c.fields-fields.result.now c.fields-fields.ensures.fields c.args.bytes.now (Some values) (search rules)))

pub returns-clause-names : goal.returns-clause-names
returns-clause-names c =
    let definition = c.args.def.now in
    let row : Cells = record { kinds = c.fill_kinds.new.kinds.items; values = map datum_of c.decode_values.new.values.items } in
    rw c.row_in.ensures (stand_by_name definition row c.fields-fields.ensures.definition (record {
      kinds = kinds_are definition c.fields-fields.result.now c.fields-fields.ensures.fields c.fill_kinds.new.kinds.items c.in_ok-fill_kinds.ensures;
      values = row_held definition c.fields-fields.result.now c.fields-fields.ensures.fields c.args.bytes.now row.values row.kinds (are_bytes c.args.bytes.now c.type_inv.bytes) c.in_ok-fill_kinds.ensures (search rules);
    }))
