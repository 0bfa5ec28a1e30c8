-- Values that are given to the fields of an event in order.
use Rattle.std.proofs.Common.{◌≡◌, ℕ, ◌+◌, ◌<◌, ◌≤◌, List, [], ◌∷◌, ◌++◌, length, get_or, drop, map, Option, Some, option_map, option_and_then, refl, sym, ap, ◌∙◌, append_assoc}
use Rattle.std.proofs.lemmas.Bool.{cond-true}
use Rattle.std.proofs.lemmas.List.{append-nil, drop-drop, drop_all, drop_more}
use Rattle.std.proofs.lemmas.Slice.Eq.{bytes_eq-Decides}
use Rattle.trace_format.specs.declared.event.Field.{Field}
use Rattle.trace_format.specs.declared.field_value.FieldValue.{FieldValue}
use Rattle.trace_format.specs.declared.pair.Pair.{Pair}
use Rattle.trace_format.specs.declared.value.Value.{Value}
use Rattle.trace_format.specs.Cells.{Datum, datum_of}
use Rattle.trace_format.specs.Rows.{value_of}
use Rattle.trace_format.specs.Values.{text_given, pairs_given}
use Rattle.trace_format.specs.private.InOrder.{first_name, named_value, values_in_order}
use Rattle.trace_format.proofs.LoopLemmas.{left, moved_where}

-- ---- the values, as the fields take them

-- a pair with the name of a field gives it its value
own_value : (field : Field) (text : List ℕ) → named_value field (record { name = field.name; value = text }) ≡ value_of field.kind text
own_value field text = cond-true _ _ _ ((bytes_eq-Decides field.name field.name).1 refl)

module _ (fields : List Field) (given : List FieldValue) (i : ℕ) (found : List Value) (all : Option (List Datum))
    (so_far : option_map (λ values. map datum_of found ++ values) (values_in_order (drop i fields) (pairs_given (drop i fields) (drop i given))) ≡ all) where
  pub taken_more : (field : Field) (none : FieldValue) (taken : Value) → i < length fields → i < length given → field ≡ get_or fields i field
      → Some (datum_of taken) ≡ value_of field.kind (text_given (get_or given i none))
      → option_map (λ values. map datum_of (found ++ taken ∷ []) ++ values) (values_in_order (drop (i + 1) fields) (pairs_given (drop (i + 1) fields) (drop (i + 1) given))) ≡ all
  taken_more field none taken within valued field_is some =
      let others = values_in_order (drop (i + 1) fields) (pairs_given (drop (i + 1) fields) (drop (i + 1) given)) in
      let fields_left = sym (left fields i field within field_is) in
      let given_left = sym (drop_more given i none valued) in
      moved_where datum_of found taken others
      ∙ ap (λ v. option_map (λ values. map datum_of found ++ values) (option_and_then (λ v. option_map (λ vs. v ∷ vs) others) v)) (some ∙ sym (own_value field (text_given (get_or given i none))))
      ∙ (λ k. option_map (λ values. map datum_of found ++ values) (values_in_order (fields_left k) (pairs_given (fields_left k) (given_left k)))) ∙ so_far

-- ---- their pairs

first_pair : (fields : List Field) (value : FieldValue) (given : List FieldValue)
    → pairs_given fields (value ∷ given) ≡ record { name = first_name fields; value = text_given value } ∷ pairs_given (drop 1 fields) given
first_pair [] value given = refl
first_pair (field ∷ fields) value given = refl

module _ (fields : List Field) (given : List FieldValue) (i : ℕ) where
  pub written_more : (none : FieldValue) (found all : List Pair) → i < length given → found ++ pairs_given (drop i fields) (drop i given) ≡ all
      → (found ++ record { name = first_name (drop i fields); value = text_given (get_or given i none) } ∷ []) ++ pairs_given (drop (i + 1) fields) (drop (i + 1) given) ≡ all
  written_more none found all within so_far =
      let value = get_or given i none in
      let pair : Pair = record { name = first_name (drop i fields); value = text_given value } in
      append_assoc found (pair ∷ []) (pairs_given (drop (i + 1) fields) (drop (i + 1) given))
      ∙ ap (λ fs. found ++ pair ∷ pairs_given fs (drop (i + 1) given)) (sym (drop-drop 1 i fields))
      ∙ ap (λ pairs. found ++ pairs) (sym (first_pair (drop i fields) value (drop (i + 1) given)))
      ∙ ap (λ vs. found ++ pairs_given (drop i fields) vs) (sym (drop_more given i none within)) ∙ so_far

  pub all_written : (found all : List Pair) → length given ≤ i → found ++ pairs_given (drop i fields) (drop i given) ≡ all → found ≡ all
  all_written found all no_more so_far =
      sym (append-nil found) ∙ ap (λ vs. found ++ pairs_given (drop i fields) vs) (sym (drop_all i given no_more)) ∙ so_far

module _ (fields : List Field) (i : ℕ) where
  pub name_here : (field : Field) → i < length fields → field ≡ get_or fields i field → field.name ≡ first_name (drop i fields)
  name_here field within is = ap first_name (sym (left fields i field within is))

  pub no_name : length fields ≤ i → [] ≡ first_name (drop i fields)
  no_name no_more = ap first_name (sym (drop_all i fields no_more))
