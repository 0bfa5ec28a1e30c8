-- Pairs give a row exactly where they are its map, and a refusal exactly where the first wrong pair or missing field is.
use Rattle.std.proofs.Common.{◌≡◌, ℕ, Bool, true, false, not, ◌&&◌, List, [], ◌∷◌, ◌++◌, Option, None, Some, is_some, option_and_then, IsTrue, Ok, Err, inl, inr, ◌⊎◌, ◌↔◌, refl, sym, ap, ◌∙◌, subst, append_assoc, append-nil}
use Rattle.std.specs.List.{AllByRecursion}
use Rattle.std.proofs.lemmas.Bool.{cond-true, cond-false}
use Rattle.trace_format.specs.declared.bad_row.BadRow.{BadRow}
use Rattle.trace_format.specs.declared.event.Field.{Field}
use Rattle.trace_format.specs.declared.pair.Pair.{Pair}
use Rattle.trace_format.specs.Definitions.{Definition, IsDefinition}
use Rattle.trace_format.specs.Cells.{Cells, IsRowOf}
use Rattle.trace_format.specs.Rows.{value_of, field_named, pair_value, pair_named, is_right, first_wrong, first_missing, wrong_at, missing_at, row_unless, row_of}
use Rattle.trace_format.specs.Pairs.{has_pair, Give, AreRight, IsWrong, IsWrongPair, IsMissingField}
use Rattle.trace_lex.proofs.Options.{none_is}
use Rattle.trace_format.proofs.BuildLemmas.{row_held, row_wrong, row_missing}
use Rattle.trace_format.proofs.FieldNames.{fields_named}
use Rattle.trace_format.proofs.PairLemmas.{pair_found, field_found, right_from, HasValue, have_values, given_there, given_row, row_is, give_is}
use Rattle.trace_format.proofs.RowCauseLemmas.{refused_is}

-- ---- the first wrong pair

module _ (fields : List Field) where
  -- a wrong pair is not right
  not_right : (before : List Pair) (pair : Pair) → IsWrong fields before pair → is_right fields before pair ≡ false
  not_right before pair (inl unknown) =
      let none : field_named fields pair.name ≡ None = none_is (field_named fields pair.name) (field_found fields pair.name ∙ unknown) in
      ap (λ o. is_some (option_and_then (λ (field : Field). value_of field.kind pair.value) o) && not (is_some (pair_named before pair.name))) none
  not_right before pair (inr (inl repeated)) = by (is_some (pair_value fields pair)) (is_some (pair_named before pair.name)) (pair_found before pair.name ∙ repeated)
    where
      by : (value there : Bool) → there ≡ true → (value && not there) ≡ false
      by false there h = refl
      by true there h = ap not h
  not_right before pair (inr (inr none)) =
      let no_value : pair_value fields pair ≡ None = ap (option_and_then (λ (field : Field). value_of field.kind pair.value)) none.named ∙ none.none in
      ap (λ o. is_some o && not (is_some (pair_named before pair.name))) no_value

  none_wrong : (before pairs : List Pair) → AreRight fields before pairs → first_wrong fields before pairs ≡ None
  none_wrong before [] are = refl
  none_wrong before (pair ∷ pairs) are =
      cond-true _ _ _ (right_from fields before pair are.0.field are.0.value are.0.named are.0.written are.0.new) ∙ none_wrong (before ++ pair ∷ []) pairs are.1

  -- behind right pairs a wrong one is the first
  wrong_found : (before front back : List Pair) (pair : Pair) → AreRight fields before front → IsWrong fields (before ++ front) pair → first_wrong fields before (front ++ pair ∷ back) ≡ Some (wrong_at fields (before ++ front) pair)
  wrong_found before [] back pair are wrong =
      cond-false _ _ _ (not_right before pair (subst (λ (ps : List Pair). IsWrong fields ps pair) (append-nil before) wrong))
      ∙ ap (λ (ps : List Pair). Some (wrong_at fields ps pair)) (sym (append-nil before))
  wrong_found before (first ∷ front) back pair are wrong =
      cond-true _ _ _ (right_from fields before first are.0.field are.0.value are.0.named are.0.written are.0.new)
      ∙ wrong_found (before ++ first ∷ []) front back pair are.1 (subst (λ (ps : List Pair). IsWrong fields ps pair) (sym (append_assoc before (first ∷ []) front)) wrong)
      ∙ ap (λ (ps : List Pair). Some (wrong_at fields ps pair)) (append_assoc before (first ∷ []) front)

  wrong_first : (pairs : List Pair) (name : List ℕ) → (w : IsWrongPair fields pairs name) → first_wrong fields [] pairs ≡ Some (wrong_at fields w.front w.pair)
  wrong_first pairs name w = ap (λ (ps : List Pair). first_wrong fields [] ps) w.cut ∙ wrong_found [] w.front w.back w.pair w.right w.wrong

-- ---- the first missing field

module _ (whole : List Field) (pairs : List Pair) (values : AllByRecursion (HasValue whole) pairs) where
  -- a field that no pair names, behind fields that pairs name, is the first that is missing
  missing_found : (front back : List Field) (field : Field) → AllByRecursion (λ (f : Field). field_named whole f.name ≡ Some f) (front ++ field ∷ back)
      → AllByRecursion (λ (f : Field). IsTrue (has_pair pairs f.name)) front → has_pair pairs field.name ≡ false → first_missing (front ++ field ∷ back) pairs ≡ Some field.name
  missing_found [] back field own named missing =
      let none : pair_named pairs field.name ≡ None = none_is (pair_named pairs field.name) (pair_found pairs field.name ∙ missing) in
      cond-false _ _ _ (ap (λ o. is_some (option_and_then (λ (pair : Pair). value_of field.kind pair.value) o)) none)
  missing_found (first ∷ front) back field own named missing =
      cond-true _ _ _ (given_there whole pairs first own.0 values named.0) ∙ missing_found front back field own.1 named.1 missing

-- ---- the laws

module _ (definition : Definition) (is : IsDefinition definition) (pairs : List Pair) where
  missing_first : (name : List ℕ) → IsMissingField definition.fields pairs name → first_missing definition.fields pairs ≡ Some name
  missing_first name m =
      let own = subst (λ (fields : List Field). AllByRecursion (λ (f : Field). field_named definition.fields f.name ≡ Some f) fields) m.cut (fields_named definition is) in
      ap (λ (fields : List Field). first_missing fields pairs) m.cut
      ∙ missing_found definition.fields pairs (have_values definition.fields [] pairs m.right) m.front m.back m.field own m.given m.missing ∙ ap Some m.at

  -- what is given is a row of the event
  of_event : (wrong : Option BadRow) (missing : Option (List ℕ)) (row : Cells) → first_missing definition.fields pairs ≡ missing → row_unless wrong missing (given_row definition pairs) ≡ Ok row → IsRowOf definition row
  of_event (Some name) missing row m h = absurd (cc)
  of_event None (Some name) row m h = absurd (cc)
  of_event None None row m h =
      let same : given_row definition pairs ≡ row = cc in
      subst (IsRowOf definition) same (record { kinds = refl; values = row_held definition.fields pairs m })

  row_given : (row : Cells) → row_of definition pairs ≡ Ok row → IsRowOf definition row × Give definition.fields pairs row
  unfolding row_of
  row_given row h =
      let wrong = first_wrong definition.fields [] pairs in
      let missing = first_missing definition.fields pairs in
      (of_event wrong missing row refl h, give_is definition pairs wrong missing row refl refl h)

  -- the pairs are refused at a name
  abbrev IsRefusedAt : List ℕ → Type 0
  IsRefusedAt name = (bad : BadRow) × (row_of definition pairs ≡ Err bad) × (bad.field ≡ name)

  refusal_given : (name : List ℕ) → IsRefusedAt name → IsWrongPair definition.fields pairs name ⊎ IsMissingField definition.fields pairs name
  refusal_given name (bad, h, at) =
      subst (λ (n : List ℕ). IsWrongPair definition.fields pairs n ⊎ IsMissingField definition.fields pairs n) at (refused_is definition is pairs bad h)

  refusal_read : (name : List ℕ) → IsWrongPair definition.fields pairs name ⊎ IsMissingField definition.fields pairs name → IsRefusedAt name
  refusal_read name (inl w) = (wrong_at definition.fields w.front w.pair, row_wrong definition pairs _ (wrong_first definition.fields pairs name w), w.at)
  refusal_read name (inr m) = (missing_at name, row_missing definition pairs name (none_wrong definition.fields [] pairs m.right) (missing_first name m), refl)

  pub row_is_given : (row : Cells) → (row_of definition pairs ≡ Ok row) ↔ (IsRowOf definition row × Give definition.fields pairs row)
  row_is_given row = (λ h. row_given row h, λ h. row_is definition pairs row is h.0 h.1)

  pub refusal_is_given : (name : List ℕ) → IsRefusedAt name ↔ (IsWrongPair definition.fields pairs name ⊎ IsMissingField definition.fields pairs name)
  refusal_is_given name = (λ h. refusal_given name h, λ h. refusal_read name h)
