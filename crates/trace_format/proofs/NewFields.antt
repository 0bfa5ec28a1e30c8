-- Pairs that each name a new field, where no field is missing, are right; and right pairs do.
use Rattle.std.proofs.Common.{◌≡◌, ℕ, Bool, true, false, not, if◌then◌else◌, List, [], ◌∷◌, ◌++◌, bytes_eq, Option, None, Some, is_some, option_and_then, refl, sym, ap, ◌∙◌, subst, append_assoc, true≢false}
use Rattle.std.proofs.lemmas.Bool.{and_parts, and_from, not-true, cond-true}
use Rattle.std.proofs.lemmas.Slice.Eq.{bytes_eq-Decides}
use Rattle.trace_format.specs.declared.event.Field.{Field}
use Rattle.trace_format.specs.declared.pair.Pair.{Pair}
use Rattle.trace_format.specs.Rows.{value_of, field_named, pair_value, pair_named, new_field, all_new, is_right, first_wrong, first_missing, given}
use Rattle.trace_lex.proofs.Options.{some_is, and_then_some}
use Rattle.trace_format.proofs.MapLemmas.{own_pair, is_value, no_fault}

-- where no field is missing, one that is found is given a value
found_given : (fields : List Field) (pairs : List Pair) (name : List ℕ) (field : Field) → field_named fields name ≡ Some field → first_missing fields pairs ≡ None
    → (field.name ≡ name) × (is_some (given pairs field) ≡ true)
found_given [] pairs name field named all = absurd (cc)
found_given (first ∷ fields) pairs name field named all =
    let test = no_fault (is_some (given pairs first)) _ _ all in
    by (bytes_eq first.name name) (bytes_eq-Decides first.name name).0 named test.0 (λ h. found_given fields pairs name field h test.1)
  where
    by : (here : Bool) → (here ≡ true → first.name ≡ name) → (if here then Some first else field_named fields name) ≡ Some field → is_some (given pairs first) ≡ true
        → (field_named fields name ≡ Some field → (field.name ≡ name) × (is_some (given pairs field) ≡ true)) → (field.name ≡ name) × (is_some (given pairs field) ≡ true)
    by true same h some others =
        let is : first ≡ field = some_is h in
        subst (λ (f : Field). (f.name ≡ name) × (is_some (given pairs f) ≡ true)) is (same refl, some)
    by false same h some others = others h

module _ (fields : List Field) (before : List Pair) (pair : Pair) where
  right_here : (pairs : List Pair) → first_missing fields (before ++ pair ∷ pairs) ≡ None → is_some (new_field fields before pair) ≡ true → is_right fields before pair ≡ true
  right_here pairs all new = by (is_some (pair_named before pair.name)) refl (field_named fields pair.name) refl new
    where
      whole : List Pair
      whole = before ++ pair ∷ pairs

      by : (there : Bool) → is_some (pair_named before pair.name) ≡ there → (field : Option Field) → field_named fields pair.name ≡ field → is_some (if there then None else field) ≡ true → is_right fields before pair ≡ true
      by true there field named h = absurd (true≢false (sym h))
      by false there None named h = absurd (true≢false (sym h))
      by false there (Some field) named h =
          let found = found_given fields whole pair.name field named all in
          let written = λ (o : Option Pair). option_and_then (λ (p : Pair). value_of field.kind p.value) o in
          let gives : given whole field ≡ value_of field.kind pair.value = ap (λ name. written (pair_named whole name)) found.0 ∙ ap written (own_pair before pairs pair there) in
          let value : pair_value fields pair ≡ value_of field.kind pair.value = ap (option_and_then (λ (f : Field). value_of f.kind pair.value)) named in
          and_from _ _ (ap is_some (value ∙ sym gives) ∙ found.1) (ap not there)

  new_here : is_right fields before pair ≡ true → is_some (new_field fields before pair) ≡ true
  new_here h =
      let parts = and_parts _ _ h in
      let value = is_value (pair_value fields pair) parts.0 in
      let read = and_then_some (λ (f : Field). value_of f.kind pair.value) (field_named fields pair.name) value.0 value.1 in
      ap (λ there. is_some (if there then None else field_named fields pair.name)) (not-true _ parts.1) ∙ ap is_some read.was

module _ (fields : List Field) where
  pub right_if_new : (before pairs : List Pair) → first_missing fields (before ++ pairs) ≡ None → all_new fields before pairs ≡ true → first_wrong fields before pairs ≡ None
  right_if_new before [] all new = refl
  right_if_new before (pair ∷ pairs) all new =
      let parts = and_parts _ _ new in
      cond-true _ _ _ (right_here fields before pair pairs all parts.0)
      ∙ right_if_new (before ++ pair ∷ []) pairs (ap (first_missing fields) (append_assoc before (pair ∷ []) pairs) ∙ all) parts.1

  pub new_if_right : (before pairs : List Pair) → first_wrong fields before pairs ≡ None → all_new fields before pairs ≡ true
  new_if_right before [] right = refl
  new_if_right before (pair ∷ pairs) right =
      let test = no_fault (is_right fields before pair) _ _ right in
      and_from _ _ (new_here fields before pair test.0) (new_if_right (before ++ pair ∷ []) pairs test.1)
