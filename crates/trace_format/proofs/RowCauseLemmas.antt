-- The cause for which pairs give no row is that of the pair to blame.
use Rattle.std.proofs.Common.{◌≡◌, ◌≤◌, ℕ, ℤ, Bool, true, false, ◌&&◌, nat_lt, if◌then◌else◌, List, [], ◌∷◌, ◌++◌, length, Option, None, Some, is_some, Result, Ok, Err, IfErr, inl, inr, ◌⊎◌, refl, sym, ap, ◌∙◌, subst, append_assoc, true≢false, ltb-false}
use Rattle.std.specs.List.{list_all}
use Rattle.trace_format.specs.declared.kind.Kind.{Kind}
use Rattle.trace_format.specs.declared.kind.Kind.TheVariants.{Number, Char}
use Rattle.trace_format.specs.declared.event.Field.{Field}
use Rattle.trace_format.specs.declared.pair.Pair.{Pair}
use Rattle.trace_format.specs.declared.bad_row.BadRow.{BadRow}
use Rattle.trace_format.specs.declared.fault.RowFault.{RowFault}
use Rattle.trace_format.specs.declared.fault.RowFault.TheVariants as fault
use Rattle.trace_format.specs.declared.fault.RowCause.TheVariants.{Repeated, NoNumber, OutOfRange, BadByte, TooLong}
use Rattle.trace_lex.specs.Numbers.{number_of}
use Rattle.trace_format.specs.Definitions.{Definition, IsDefinition}
use Rattle.trace_format.specs.Cells.{Datum, Bytes, Cells, is_printable}
use Rattle.trace_format.specs.Rows.{value_of, field_named, pair_named, is_right, first_wrong, first_missing, wrong_at, missing_at, row_unless, row_of, IsBuilt, value_cause, named_cause, pair_cause}
use Rattle.trace_format.specs.Pairs.{has_pair, AreRight, IsWrongPair, IsMissingField, IsRefusedRow}
use Rattle.trace_format.specs.RowCauses.{IsNoValueOf, IsWrongFor, IsWrongPairFor, IsMissingFor, IsToldOf}
use Rattle.trace_lex.proofs.Options.{some_is}
use Rattle.trace_format.proofs.PairLemmas.{pair_found, field_found, right_is, right_from, wrong_is, AreRight-push, given_row, all_right, missing_field}
use Rattle.trace_format.proofs.FieldNames.{fields_named}

-- ---- the cause of one pair

module _ (fields : List Field) (before : List Pair) (pair : Pair) where
  -- a text that is no value of the field's type
  no_value : (field : Field) (kind : Kind) → field_named fields pair.name ≡ Some field → has_pair before pair.name ≡ false → value_of field.kind pair.value ≡ None → field.kind ≡ kind
      → IsNoValueOf fields before pair kind
  no_value field kind named new none is = record { new = new; none = record { field = field; named = named; none = none }; kind = is }

  value_wrong : (field : Field) (kind : Kind) → field_named fields pair.name ≡ Some field → has_pair before pair.name ≡ false → value_of field.kind pair.value ≡ None → field.kind ≡ kind
      → IsWrongFor fields before pair (value_cause kind pair.value)
  unfolding value_of
  value_wrong field (Number t) named new none is = by (number_of pair.value) refl
    where
      by : (number : Option ℤ) → number_of pair.value ≡ number → IsWrongFor fields before pair (if is_some number then OutOfRange else NoNumber)
      by (Some n) e = (t, no_value field (Number t) named new none is, ap is_some e)
      by None e = (t, no_value field (Number t) named new none is, e)
  value_wrong field (Char n) named new none is = by (list_all is_printable pair.value) refl
    where
      long : (short : Bool) → nat_lt (length pair.value) n ≡ short → list_all is_printable pair.value ≡ true → n ≤ length pair.value
      long true e all =
          let none_here : value_of (Char n) pair.value ≡ None = sym (ap (λ k. value_of k pair.value) is) ∙ none in
          let some : value_of (Char n) pair.value ≡ Some (Bytes pair.value) = (λ i. if e i && all i then Some (Bytes pair.value) else None) in
          let no : None ≡ Some (Bytes pair.value) = sym none_here ∙ some in
          absurd (cc)
      long false e all = ltb-false (length pair.value) n e

      by : (printable : Bool) → list_all is_printable pair.value ≡ printable → IsWrongFor fields before pair (if printable then TooLong else BadByte)
      by true e = (n, no_value field (Char n) named new none is, long (nat_lt (length pair.value) n) refl e)
      by false e = (n, no_value field (Char n) named new none is, e)

  pub wrong_for : is_right fields before pair ≡ false → IsWrongFor fields before pair (pair_cause fields before pair)
  wrong_for h = by_field (field_named fields pair.name) refl
    where
      by_value : (field : Field) → field_named fields pair.name ≡ Some field → has_pair before pair.name ≡ false → (value : Option Datum) → value_of field.kind pair.value ≡ value
          → IsWrongFor fields before pair (value_cause field.kind pair.value)
      by_value field named new None none = value_wrong field field.kind named new none refl
      by_value field named new (Some value) written = absurd (true≢false (sym (right_from fields before pair field value named written new) ∙ h))

      by_new : (field : Field) → field_named fields pair.name ≡ Some field → (there : Bool) → is_some (pair_named before pair.name) ≡ there
          → IsWrongFor fields before pair (if there then Repeated else value_cause field.kind pair.value)
      by_new field named true e = (sym (field_found fields pair.name) ∙ ap is_some named, sym (pair_found before pair.name) ∙ e)
      by_new field named false e = by_value field named (sym (pair_found before pair.name) ∙ e) (value_of field.kind pair.value) refl

      by_field : (field : Option Field) → field_named fields pair.name ≡ field → IsWrongFor fields before pair (named_cause field before pair)
      by_field None named = sym (field_found fields pair.name) ∙ ap is_some named
      by_field (Some field) named = by_new field named (is_some (pair_named before pair.name)) refl

-- ---- the first wrong pair

module _ (fields : List Field) where
  wrong_pair_for : (before pairs : List Pair) (bad : BadRow) → AreRight fields [] before → first_wrong fields before pairs ≡ Some bad → IsWrongPairFor fields (before ++ pairs) bad
  wrong_pair_for before [] bad are h = absurd (cc)
  wrong_pair_for before (pair ∷ pairs) bad are h = by (is_right fields before pair) refl h (wrong_pair_for (before ++ pair ∷ []) pairs bad)
    where
      by : (right : Bool) → is_right fields before pair ≡ right → (if right then first_wrong fields (before ++ pair ∷ []) pairs else Some (wrong_at fields before pair)) ≡ Some bad
          → (AreRight fields [] (before ++ pair ∷ []) → first_wrong fields (before ++ pair ∷ []) pairs ≡ Some bad → IsWrongPairFor fields ((before ++ pair ∷ []) ++ pairs) bad)
          → IsWrongPairFor fields (before ++ pair ∷ pairs) bad
      by true is h' others =
          subst (λ (ps : List Pair). IsWrongPairFor fields ps bad) (append_assoc before (pair ∷ []) pairs)
          (others (AreRight-push fields [] before pair are (right_is fields before pair is)) h')
      by false is h' others = subst (IsWrongPairFor fields (before ++ pair ∷ pairs)) (some_is h') (record {
        pair = record { front = before; pair = pair; back = pairs; cut = refl; right = are; wrong = wrong_is fields before pair is; at = refl };
        index = refl;
        cause = wrong_for fields before pair is;
      })

-- ---- the law

module _ (definition : Definition) (is : IsDefinition definition) (pairs : List Pair) where
  refused_for : (wrong : Option BadRow) (missing : Option (List ℕ)) (bad : BadRow) → first_wrong definition.fields [] pairs ≡ wrong → first_missing definition.fields pairs ≡ missing
      → row_unless wrong missing (given_row definition pairs) ≡ Err bad → IsToldOf definition.fields pairs bad
  refused_for (Some first) missing bad w m h =
      let same : first ≡ bad = cc in
      inl (wrong_pair_for definition.fields [] pairs bad tt (w ∙ ap Some same))
  refused_for None (Some name) bad w m h =
      let same : missing_at name ≡ bad = cc in
      inr (subst (IsMissingFor definition.fields pairs) same (record {
        field = missing_field definition.fields pairs name (all_right definition.fields [] pairs w) [] definition.fields refl tt (fields_named definition is) m;
        none = refl;
        cause = refl;
      }))
  refused_for None None bad w m h = absurd (cc)

  pub cause_is_at_the_pair : (bad : BadRow) → row_of definition pairs ≡ Err bad → IsToldOf definition.fields pairs bad
  unfolding row_of
  cause_is_at_the_pair bad h = refused_for (first_wrong definition.fields [] pairs) (first_missing definition.fields pairs) bad refl refl h

  -- where pairs are refused, whatever the cause
  pub refused_is : (bad : BadRow) → row_of definition pairs ≡ Err bad → IsWrongPair definition.fields pairs bad.field ⊎ IsMissingField definition.fields pairs bad.field
  refused_is bad h = by (cause_is_at_the_pair bad h)
    where
      by : IsToldOf definition.fields pairs bad → IsWrongPair definition.fields pairs bad.field ⊎ IsMissingField definition.fields pairs bad.field
      by (inl wrong) = inl wrong.pair
      by (inr missing) = inr missing.field

  pub build_refused : (r : Result Cells RowFault) → IsBuilt r (row_of definition pairs) → IfErr r (IsRefusedRow definition pairs)
  build_refused (Ok row) e = tt
  build_refused (Err (fault.BadRow bad)) e = refused_is bad e
  build_refused (Err fault.Memory) e = tt
