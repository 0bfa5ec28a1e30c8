-- The row that pairs give, as a map from names to values.
use Rattle.std.proofs.Common.{◌≡◌, Bool, true, false, List, [], ◌∷◌, ◌++◌, bytes_eq, find, filter_map, Option, None, Some, is_some, option_and_then, if◌then◌else◌, refl, sym, ap, ◌∙◌, subst, append_assoc, true≢false}
use Rattle.std.specs.List.{AllByRecursion, cons_option}
use Rattle.std.proofs.lemmas.Bool.{and_parts, not-true}
use Rattle.std.proofs.lemmas.Slice.Eq.{bytes_eq-Decides}
use Rattle.trace_format.specs.declared.event.Field.{Field}
use Rattle.trace_format.specs.declared.pair.Pair.{Pair}
use Rattle.trace_format.specs.Cells.{Datum, value_at}
use Rattle.trace_format.specs.Rows.{value_of, field_named, pair_value, pair_named, is_right, first_wrong, first_missing, given}
use Rattle.trace_format.specs.Pairs.{HasPair}
use Rattle.trace_lex.proofs.Options.{and_then_some}

-- the first of two lists where nothing is found in the first
find-append : {X : Type 0} (test : X → Bool) (xs ys : List X) → is_some (find test xs) ≡ false → find test (xs ++ ys) ≡ find test ys
find-append test [] ys h = refl
find-append test (x ∷ xs) ys h = by (test x) h (find-append test xs ys)
  where
    by : (t : Bool) → is_some (if t then Some x else find test xs) ≡ false → (is_some (find test xs) ≡ false → find test (xs ++ ys) ≡ find test ys)
        → (if t then Some x else find test (xs ++ ys)) ≡ find test ys
    by true h' others = absurd (true≢false h')
    by false h' others = others h'

-- a pair that no pair before has the name of is the pair of its name
pub own_pair : (before after : List Pair) (pair : Pair) → is_some (pair_named before pair.name) ≡ false → pair_named (before ++ pair ∷ after) pair.name ≡ Some pair
own_pair before after pair h =
    find-append (λ (p : Pair). bytes_eq p.name pair.name) before (pair ∷ after) h
    ∙ ap (λ t. if t then Some pair else pair_named after pair.name) ((bytes_eq-Decides pair.name pair.name).1 refl)

-- a test that found no fault passed
pub no_fault : {X : Type 0} (passes : Bool) (others : Option X) (fault : X) → (if passes then others else Some fault) ≡ None → (passes ≡ true) × (others ≡ None)
no_fault true others fault h = (refl, h)
no_fault false others fault h = absurd (cc)

pub is_value : {X : Type 0} (o : Option X) → is_some o ≡ true → (x : X) × (o ≡ Some x)
is_value None h = absurd (true≢false (sym h))
is_value (Some x) h = (x, refl)

module _ (pairs : List Pair) (pair : Pair) (own : pair_named pairs pair.name ≡ Some pair) where
  -- the value that a row has at the name is that of the pair
  value_there : (fields : List Field) → first_missing fields pairs ≡ None → value_at fields (filter_map (given pairs) fields) pair.name ≡ pair_value fields pair
  value_there [] all = refl
  value_there (field ∷ fields) all =
      let test = no_fault (is_some (given pairs field)) _ _ all in
      let value = is_value (given pairs field) test.0 in
      ap (λ o. value_at (field ∷ fields) (cons_option o (filter_map (given pairs) fields)) pair.name) value.1
      ∙ by (bytes_eq field.name pair.name) value.0 (bytes_eq-Decides field.name pair.name).0 value.1 (value_there fields test.1)
    where
      by : (here : Bool) (value : Datum) → (here ≡ true → field.name ≡ pair.name) → given pairs field ≡ Some value
          → value_at fields (filter_map (given pairs) fields) pair.name ≡ pair_value fields pair
          → (if here then Some value else value_at fields (filter_map (given pairs) fields) pair.name)
          ≡ option_and_then (λ (f : Field). value_of f.kind pair.value) (if here then Some field else field_named fields pair.name)
      by true value name e others = sym e ∙ ap (option_and_then (λ (p : Pair). value_of field.kind p.value)) (ap (pair_named pairs) (name refl) ∙ own)
      by false value name e others = others

each : (fields : List Field) (before pairs : List Pair) → first_missing fields (before ++ pairs) ≡ None → first_wrong fields before pairs ≡ None
    → AllByRecursion (HasPair fields (filter_map (given (before ++ pairs)) fields)) pairs
each fields before [] all right = tt
each fields before (pair ∷ pairs) all right =
    let test = no_fault (is_right fields before pair) _ _ right in
    let own = own_pair before pairs pair (not-true _ (and_parts _ _ test.0).1) in
    let joined = append_assoc before (pair ∷ []) pairs in
    let value = is_value (pair_value fields pair) (and_parts _ _ test.0).0 in
    let read = and_then_some (λ (field : Field). value_of field.kind pair.value) (field_named fields pair.name) value.0 value.1 in (
      record { field = read.value; named = read.was; value = value.0; written = read.gives; there = value_there (before ++ pair ∷ pairs) pair own fields all ∙ value.1 },
      subst (λ (ps : List Pair). AllByRecursion (HasPair fields (filter_map (given ps) fields)) pairs) joined
          (each fields (before ++ pair ∷ []) pairs (subst (λ (ps : List Pair). first_missing fields ps ≡ None) (sym joined) all) test.1),
    )

-- a row has what each of its pairs says
pub has_pairs : (fields : List Field) (pairs : List Pair) (values : List Datum) → first_wrong fields [] pairs ≡ None → first_missing fields pairs ≡ None → values ≡ filter_map (given pairs) fields
    → AllByRecursion (HasPair fields values) pairs
has_pairs fields pairs values right all is = subst (λ (v : List Datum). AllByRecursion (HasPair fields v) pairs) (sym is) (each fields [] pairs all right)
