-- Rows from pairs of names and texts.
use Rattle.std.proofs.Common.{◌≡◌, ℕ, ◌&&◌, nat_lt, List, [], ◌∷◌, length, map, filter_map, int_le, Option, None, Some, is_some, Ok, Err, refl, sym, ap, ◌∙◌, subst, if◌then◌else◌, ltb-true}
use Rattle.std.specs.Bool.{passes}
use Rattle.std.specs.Int.Signed.{le_z_yes}
use Rattle.std.specs.List.{list_all, AllZip, cons_option}
use Rattle.std.proofs.lemmas.Bool.{and_parts}
use Rattle.trace_format.specs.declared.kind.Kind.{Kind}
use Rattle.trace_format.specs.declared.kind.Kind.TheVariants.{Number, Char}
use Rattle.trace_format.specs.declared.event.Field.{Field}
use Rattle.trace_format.specs.declared.pair.Pair.{Pair}
use Rattle.trace_format.specs.declared.bad_row.BadRow.{BadRow}
use Rattle.trace_format.specs.declared.fault.RowFault.{RowFault}
use Rattle.trace_format.specs.declared.fault.RowFault.TheVariants as fault
use Rattle.trace_lex.specs.Numbers.{number_of}
use Rattle.trace_format.specs.Kinds.{least, greatest}
use Rattle.trace_format.specs.Definitions.{Definition}
use Rattle.trace_format.specs.Cells.{Datum, Holds, is_printable, kinds_of}
use Rattle.trace_format.specs.Rows.{number_in, value_of, first_wrong, first_missing, pair_named, given, missing_at, row_unless, row_of, IsBuilt, IsBadRow}
use Rattle.trace_lex.proofs.Options.{if_some, and_then_some}

-- what a text gives may be held
pub value_of-holds : (kind : Kind) (text : List ℕ) (value : Datum) → value_of kind text ≡ Some value → Holds kind value
unfolding value_of
value_of-holds (Number t) text value h =
    let read = and_then_some (number_in (least t) (greatest t)) (number_of text) value h in
    let test = if_some (int_le (least t) read.value && int_le read.value (greatest t)) read.gives in
    let parts = and_parts _ _ test.0 in
    subst (Holds (Number t)) test.1 (le_z_yes (passes _ parts.0), le_z_yes (passes _ parts.1))
value_of-holds (Char n) text value h =
    let test = if_some (nat_lt (length text) n && list_all is_printable text) h in
    let parts = and_parts _ _ test.0 in
    subst (Holds (Char n)) test.1 (ltb-true _ _ parts.0, parts.1)

-- where no field is missing, each has a value that it may have
pub row_held : (fields : List Field) (pairs : List Pair) → first_missing fields pairs ≡ None → AllZip Holds (map (λ (f : Field). f.kind) fields) (filter_map (given pairs) fields)
row_held [] pairs h = tt
row_held (field ∷ fields) pairs h = by (given pairs field) refl h (row_held fields pairs)
  where
    by : (value : Option Datum) → given pairs field ≡ value → (if is_some value then first_missing fields pairs else Some field.name) ≡ None
        → (first_missing fields pairs ≡ None → AllZip Holds (map (λ (f : Field). f.kind) fields) (filter_map (given pairs) fields))
        → AllZip Holds (field.kind ∷ map (λ (f : Field). f.kind) fields) (cons_option value (filter_map (given pairs) fields))
    by None e h' others = absurd (cc)
    by (Some value) e h' others =
        let read = and_then_some (λ (pair : Pair). value_of field.kind pair.value) (pair_named pairs field.name) value e in
        (value_of-holds field.kind read.value.value value read.gives, others h')

module _ (definition : Definition) (pairs : List Pair) where
  pub row_ok : (kinds : List Kind) (values : List Datum) → first_wrong definition.fields [] pairs ≡ None → first_missing definition.fields pairs ≡ None
      → kinds ≡ kinds_of definition → values ≡ filter_map (given pairs) definition.fields → row_of definition pairs ≡ Ok (record { kinds = kinds; values = values })
  unfolding row_of
  row_ok kinds values right all kinds_is values_is =
      let back_kinds = sym kinds_is in
      let back_values = sym values_is in
      (λ i. row_unless (right i) (all i) (record { kinds = back_kinds i; values = back_values i }))

  pub row_wrong : (bad : BadRow) → first_wrong definition.fields [] pairs ≡ Some bad → row_of definition pairs ≡ Err bad
  unfolding row_of
  row_wrong bad h = ap (λ wrong. row_unless wrong (first_missing definition.fields pairs) (record { kinds = kinds_of definition; values = filter_map (given pairs) definition.fields })) h

  pub row_missing : (name : List ℕ) → first_wrong definition.fields [] pairs ≡ None → first_missing definition.fields pairs ≡ Some name → row_of definition pairs ≡ Err (missing_at name)
  unfolding row_of
  row_missing name right h = (λ i. row_unless (right i) (h i) (record { kinds = kinds_of definition; values = filter_map (given pairs) definition.fields }))

  pub refused_wrong : (refused : RowFault) (bad : BadRow) → IsBadRow refused bad → first_wrong definition.fields [] pairs ≡ Some bad → IsBuilt (Err refused) (row_of definition pairs)
  refused_wrong (fault.BadRow told) bad is h = row_wrong bad h ∙ ap Err (sym is)
  refused_wrong fault.Memory bad is h = tt

  pub refused_missing : (refused : RowFault) (name : List ℕ) → IsBadRow refused (missing_at name) → first_wrong definition.fields [] pairs ≡ None → first_missing definition.fields pairs ≡ Some name → IsBuilt (Err refused) (row_of definition pairs)
  refused_missing (fault.BadRow told) name is right h = row_missing name right h ∙ ap Err (sym is)
  refused_missing fault.Memory name is right h = tt
