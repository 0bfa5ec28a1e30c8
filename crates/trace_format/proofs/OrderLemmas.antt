-- Pairs that name the fields of an event in order give the row of their values.
use Rattle.std.proofs.Common.{◌≡◌, ℕ, Bool, true, false, ◌||◌, if◌then◌else◌, List, [], ◌∷◌, ◌++◌, map, bytes_eq, None, Some, option_map, IsTrue, Ok, refl, sym, ap, ◌∙◌, subst}
use Rattle.std.specs.List.{AllByRecursion, AllZip}
use Rattle.std.proofs.lemmas.Slice.Eq.{bytes_eq-Decides}
use Rattle.trace_format.specs.declared.event.Field.{Field}
use Rattle.trace_format.specs.declared.pair.Pair.{Pair}
use Rattle.trace_format.specs.Definitions.{Definition, IsDefinition, AreFields, has_field}
use Rattle.trace_format.specs.Cells.{Datum, Cells, Holds, IsRowOf, kinds_of, value_at}
use Rattle.trace_format.specs.Rows.{value_of, field_named, row_of}
use Rattle.trace_format.specs.Pairs.{has_pair, HasPair, AreOnce}
use Rattle.trace_format.specs.private.InOrder.{named_value, values_in_order}
use Rattle.trace_lex.proofs.Options.{and_then_some, map_some}
use Rattle.trace_format.proofs.BuildLemmas.{value_of-holds}
use Rattle.trace_format.proofs.FieldNames.{bytes_eq-swap, fields_named, stand_by_name}
use Rattle.trace_format.proofs.PairLemmas.{row_is}

-- each pair names the field in its index and gives it the value there
pub record IsNamed (field : Field) (pair : Pair) (value : Datum) : Type 0 where
  pub name : field.name ≡ pair.name
  pub written : value_of field.kind pair.value ≡ Some value

abbrev AreNamed : List Field → List Pair → List Datum → Type 0
AreNamed [] [] [] = Unit {0}
AreNamed [] [] (value ∷ values) = ⊥
AreNamed [] (pair ∷ pairs) values = ⊥
AreNamed (field ∷ fields) [] values = ⊥
AreNamed (field ∷ fields) (pair ∷ pairs) [] = ⊥
AreNamed (field ∷ fields) (pair ∷ pairs) (value ∷ values) = IsNamed field pair value × AreNamed fields pairs values

pub is_named : (field : Field) (pair : Pair) (value : Datum) → named_value field pair ≡ Some value → IsNamed field pair value
is_named field pair value h = by (bytes_eq field.name pair.name) (bytes_eq-Decides field.name pair.name).0 h
  where
    by : (same : Bool) → (same ≡ true → field.name ≡ pair.name) → (if same then value_of field.kind pair.value else None) ≡ Some value → IsNamed field pair value
    by true same h' = record { name = same refl; written = h' }
    by false same h' = absurd (cc)

are_named : (fields : List Field) (pairs : List Pair) (values : List Datum) → values_in_order fields pairs ≡ Some values → AreNamed fields pairs values
are_named [] [] [] h = tt
are_named [] [] (value ∷ values) h = absurd (cc)
are_named [] (pair ∷ pairs) values h = absurd (cc)
are_named (field ∷ fields) [] values h = absurd (cc)
are_named (field ∷ fields) (pair ∷ pairs) values h =
    let first = and_then_some (λ (value : Datum). option_map (λ (vs : List Datum). value ∷ vs) (values_in_order fields pairs)) (named_value field pair) values h in
    let others = map_some (λ (vs : List Datum). first.value ∷ vs) (values_in_order fields pairs) values first.gives in
    subst (AreNamed (field ∷ fields) (pair ∷ pairs)) others.gives (is_named field pair first.value first.was, are_named fields pairs others.value others.was)

-- ---- what follows of it

-- the values may be held
held : (fields : List Field) (pairs : List Pair) (values : List Datum) → AreNamed fields pairs values → AllZip Holds (map (λ (f : Field). f.kind) fields) values
held [] [] [] are = tt
held [] [] (value ∷ values) are = absurd are
held [] (pair ∷ pairs) values are = absurd are
held (field ∷ fields) [] values are = absurd are
held (field ∷ fields) (pair ∷ pairs) [] are = absurd are
held (field ∷ fields) (pair ∷ pairs) (value ∷ values) are = (value_of-holds field.kind pair.value value are.0.written, held fields pairs values are.1)

-- pairs and fields have the same names
abbrev HaveNames : List Field → List Pair → Type 0
HaveNames [] [] = Unit {0}
HaveNames [] (pair ∷ pairs) = ⊥
HaveNames (field ∷ fields) [] = ⊥
HaveNames (field ∷ fields) (pair ∷ pairs) = (field.name ≡ pair.name) × HaveNames fields pairs

have_names : (fields : List Field) (pairs : List Pair) (values : List Datum) → AreNamed fields pairs values → HaveNames fields pairs
have_names [] [] [] are = tt
have_names [] [] (value ∷ values) are = absurd are
have_names [] (pair ∷ pairs) values are = absurd are
have_names (field ∷ fields) [] values are = absurd are
have_names (field ∷ fields) (pair ∷ pairs) [] are = absurd are
have_names (field ∷ fields) (pair ∷ pairs) (value ∷ values) are = (are.0.name, have_names fields pairs values are.1)

HaveNames-push : (fields : List Field) (pairs : List Pair) (field : Field) (pair : Pair) → HaveNames fields pairs → field.name ≡ pair.name
    → HaveNames (fields ++ field ∷ []) (pairs ++ pair ∷ [])
HaveNames-push [] [] field pair have name = (name, tt)
HaveNames-push [] (other ∷ pairs) field pair have name = absurd have
HaveNames-push (first ∷ fields) [] field pair have name = absurd have
HaveNames-push (first ∷ fields) (other ∷ pairs) field pair have name = (have.0, HaveNames-push fields pairs field pair have.1 name)

-- a pair has a name exactly where a field has it
named_in_both : (fields : List Field) (pairs : List Pair) (name : List ℕ) → HaveNames fields pairs → has_pair pairs name ≡ has_field fields name
named_in_both [] [] name have = refl
named_in_both [] (pair ∷ pairs) name have = absurd have
named_in_both (field ∷ fields) [] name have = absurd have
named_in_both (field ∷ fields) (pair ∷ pairs) name have =
    ap (λ b. b || has_pair pairs name) (ap (λ (n : List ℕ). bytes_eq n name) (sym have.0) ∙ bytes_eq-swap field.name name)
    ∙ ap (λ b. bytes_eq name field.name || b) (named_in_both fields pairs name have.1)

-- no name stands twice
are_once : (before fields : List Field) (earlier pairs : List Pair) → AreFields before fields → HaveNames before earlier → HaveNames fields pairs → AreOnce earlier pairs
are_once before [] earlier [] are had have = tt
are_once before [] earlier (pair ∷ pairs) are had have = absurd have
are_once before (field ∷ fields) earlier [] are had have = absurd have
are_once before (field ∷ fields) earlier (pair ∷ pairs) are had have = (
  ap (has_pair earlier) (sym have.0) ∙ named_in_both before earlier field.name had ∙ are.0.new,
  are_once (before ++ field ∷ []) fields (earlier ++ pair ∷ []) pairs are.1 (HaveNames-push before earlier field pair had have.0) have.1,
)

module _ (whole : List Field) (all : List Datum) where
  -- the row has each pair
  each_pair : (fields : List Field) (pairs : List Pair) (values : List Datum) → AllByRecursion (λ (f : Field). field_named whole f.name ≡ Some f) fields
      → AllZip (λ (f : Field) (v : Datum). value_at whole all f.name ≡ Some v) fields values → AreNamed fields pairs values → AllByRecursion (HasPair whole all) pairs
  each_pair [] [] [] own there are = tt
  each_pair [] [] (value ∷ values) own there are = absurd are
  each_pair [] (pair ∷ pairs) values own there are = absurd are
  each_pair (field ∷ fields) [] values own there are = absurd are
  each_pair (field ∷ fields) (pair ∷ pairs) [] own there are = absurd are
  each_pair (field ∷ fields) (pair ∷ pairs) (value ∷ values) own there are = (
    record {
      field = field;
      named = ap (field_named whole) (sym are.0.name) ∙ own.0;
      value = value;
      written = are.0.written;
      there = ap (value_at whole all) (sym are.0.name) ∙ there.0;
    },
    each_pair fields pairs values own.1 there.1 are.1,
  )

-- a field that is among those named is named
module _ (pairs : List Pair) where
  each_field : (fields others : List Field) → HaveNames fields pairs → ((name : List ℕ) → has_field others name ≡ true → has_field fields name ≡ true)
      → AllByRecursion (λ (f : Field). IsTrue (has_pair pairs f.name)) others
  each_field fields [] have within = tt
  each_field fields (field ∷ others) have within = (
    named_in_both fields pairs field.name have ∙ within field.name (ap (λ b. b || has_field others field.name) ((bytes_eq-Decides field.name field.name).1 refl)),
    each_field fields others have (λ name h. within name (or_right (bytes_eq name field.name) (has_field others name) h)),
  )
    where
      or_right : (a b : Bool) → b ≡ true → (a || b) ≡ true
      or_right true b h = refl
      or_right false b h = h

module _ (definition : Definition) (is : IsDefinition definition) (pairs : List Pair) where
  -- the row of the values is the one that the pairs give
  pub row_in_order : (values : List Datum) → values_in_order definition.fields pairs ≡ Some values → row_of definition pairs ≡ Ok (record { kinds = kinds_of definition; values = values })
  row_in_order values h =
      let are = are_named definition.fields pairs values h in
      let have = have_names definition.fields pairs values are in
      let row : Cells = record { kinds = kinds_of definition; values = values } in
      let of : IsRowOf definition row = record { kinds = refl; values = held definition.fields pairs values are } in
      row_is definition pairs row is of (record {
        once = are_once [] definition.fields [] pairs is.fields tt have;
        each = each_pair definition.fields values definition.fields pairs values (fields_named definition is) (stand_by_name definition row is of) are;
        all = each_field pairs definition.fields definition.fields have (λ name h'. h');
      })

  -- and it is one of the event
  pub held_in_order : (values : List Datum) → values_in_order definition.fields pairs ≡ Some values → AllZip Holds (kinds_of definition) values
  held_in_order values h = held definition.fields pairs values (are_named definition.fields pairs values h)
