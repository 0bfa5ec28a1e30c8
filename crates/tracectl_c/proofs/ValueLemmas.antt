-- Values that C gives, read one by one.
use Rattle.std.proofs.Common.{◌≡◌, ℕ, ◌+◌, ◌<◌, ◌≤◌, List, [], ◌∷◌, ◌++◌, length, get_or, drop, Option, Some, None, refl, ap, sym, ◌∙◌, append_assoc, arith}
use Rattle.std.specs.Option.{option_and_then, option_map}
use Rattle.std.proofs.lemmas.List.{append-nil, drop_all, drop_more}
use Rattle.trace_format.specs.declared.field_value.FieldValue.{FieldValue}
use Rattle.tracectl_c.specs.GivenValues.{value_in, values_in}
use Rattle.tracectl_c.specs.declared.value.Value.{Value}

append-given : (items : List FieldValue) (given : FieldValue) (more : Option (List FieldValue))
    → option_map (λ more. (items ++ given ∷ []) ++ more) more ≡ option_map (λ more. items ++ more) (option_map (λ more. given ∷ more) more)
append-given items given None = refl
append-given items given (Some more) = ap Some (append_assoc items (given ∷ []) more)

module _ (values : List Value) (i : ℕ) (items : List FieldValue)
    (so_far : option_map (λ more. items ++ more) (values_in (drop i values)) ≡ values_in values) where
  module _ (other : Value) (read : Option FieldValue) (within : i < length values) (is : read ≡ value_in (get_or values i other)) where
    -- the value at the index, before those after it
    abbrev step : Option FieldValue → Option (List FieldValue)
    step o = option_and_then (λ given. option_map (λ more. given ∷ more) (values_in (drop (i + 1) values))) o

    here : values_in (drop i values) ≡ step read
    unfolding values_in
    here = ap values_in (drop_more values i other within) ∙ ap step (sym is)

    pub value_read : (given : FieldValue) → read ≡ Some given
        → option_map (λ more. (items ++ given ∷ []) ++ more) (values_in (drop (i + 1) values)) ≡ values_in values
    unfolding values_in
    value_read given some =
        append-given items given (values_in (drop (i + 1) values)) ∙ ap (λ (o : Option FieldValue). option_map (λ more. items ++ more) (step o)) (sym some)
        ∙ ap (option_map (λ more. items ++ more)) (sym here) ∙ so_far

    pub no_value_read : read ≡ None → None ≡ values_in values
    no_value_read none =
        sym (sym so_far ∙ ap (option_map (λ more. items ++ more)) here ∙ ap (λ (o : Option FieldValue). option_map (λ more. items ++ more) (step o)) none)

  pub all_read : length values ≤ i → Some items ≡ values_in values
  unfolding values_in
  all_read done = sym (sym so_far ∙ ap (λ vs. option_map (λ more. items ++ more) (values_in vs)) (drop_all i values done) ∙ ap Some (append-nil items))

-- nothing was read yet
pub none_read : (more : Option (List FieldValue)) → option_map (λ more. [] ++ more) more ≡ more
none_read None = refl
none_read (Some more) = refl

-- a lone value
pub one_read : (value : Value) (given : FieldValue) → value_in value ≡ Some given → values_in (value ∷ []) ≡ Some (given ∷ [])
unfolding values_in
one_read value given some = ap (λ (o : Option FieldValue). option_and_then (λ given. option_map (λ more. given ∷ more) (Some [])) o) some

pub none_in_one : (value : Value) → value_in value ≡ None → values_in (value ∷ []) ≡ None
unfolding values_in
none_in_one value none = ap (λ (o : Option FieldValue). option_and_then (λ given. option_map (λ more. given ∷ more) (Some [])) o) none

-- a list of a lone value
pub lone_read : (values : List Value) (other : Value) → 1 ≤ length values → length values < 2 → values_in (get_or values 0 other ∷ []) ≡ values_in values
lone_read [] other some one = absurd (omega (arith, some))
lone_read (value ∷ []) other some one = refl
lone_read (value ∷ next ∷ rest) other some one = absurd (omega (arith, one))
