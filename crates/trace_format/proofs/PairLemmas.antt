-- What pairs give as functions is what they give as a map, and they are refused where the first wrong pair or missing field is.
use Rattle.std.proofs.Common.{◌≡◌, ℕ, Bool, true, false, not, ◌||◌, if◌then◌else◌, List, [], ◌∷◌, ◌++◌, bytes_eq, filter_map, Option, None, Some, is_some, option_and_then, IsTrue, Result, Ok, Err, IfOk, inl, inr, refl, sym, ap, ◌∙◌, subst, append_assoc, append-nil, true≢false}
use Rattle.std.specs.List.{AllByRecursion, AllZip, cons_option}
use Rattle.std.proofs.lemmas.Bool.{and_parts, and_from, not-true, cond-true, false_from_ne_true}
use Rattle.std.proofs.lemmas.Slice.Eq.{bytes_eq-Decides}
use Rattle.trace_format.specs.declared.bad_row.BadRow.{BadRow}
use Rattle.trace_format.specs.declared.event.Field.{Field}
use Rattle.trace_format.specs.declared.pair.Pair.{Pair}
use Rattle.trace_format.specs.declared.fault.RowFault.{RowFault}
use Rattle.trace_format.specs.Definitions.{Definition, IsDefinition, has_field}
use Rattle.trace_format.specs.Cells.{Datum, Cells, IsRowOf, StandByName, kinds_of, value_at}
use Rattle.trace_format.specs.Rows.{value_of, field_named, pair_value, pair_named, is_right, first_wrong, first_missing, given, row_unless, row_of, IsBuilt}
use Rattle.trace_format.specs.Pairs.{has_pair, HasPair, AreOnce, Give, IsRight, AreRight, IsWrong, IsMissingField}
use Rattle.trace_lex.proofs.Lists.{AllByRecursion-push}
use Rattle.trace_lex.proofs.Options.{some_is, and_then_some}
use Rattle.trace_format.proofs.BuildLemmas.{row_ok}
use Rattle.trace_format.proofs.FieldNames.{bytes_eq-swap, fields_named, stand_by_name}
use Rattle.trace_format.proofs.MapLemmas.{has_pairs, is_value, no_fault}

-- ---- names

-- a pair is found exactly where one has the name
pub pair_found : (pairs : List Pair) (name : List ℕ) → is_some (pair_named pairs name) ≡ has_pair pairs name
pair_found [] name = refl
pair_found (pair ∷ pairs) name = by (bytes_eq pair.name name) (pair_found pairs name)
  where
    by : (here : Bool) → is_some (pair_named pairs name) ≡ has_pair pairs name → is_some (if here then Some pair else pair_named pairs name) ≡ (here || has_pair pairs name)
    by true others = refl
    by false others = others

pub field_found : (fields : List Field) (name : List ℕ) → is_some (field_named fields name) ≡ has_field fields name
field_found [] name = refl
field_found (field ∷ fields) name = by (bytes_eq field.name name) (field_found fields name) ∙ ap (λ b. b || has_field fields name) (bytes_eq-swap field.name name)
  where
    by : (here : Bool) → is_some (field_named fields name) ≡ has_field fields name → is_some (if here then Some field else field_named fields name) ≡ (here || has_field fields name)
    by true others = refl
    by false others = others

-- a pair that was found
record IsPairOf (P : Pair → Type 0) (found : Option Pair) (name : List ℕ) : Type 0 where
  pair : Pair
  was : found ≡ Some pair
  named : pair.name ≡ name
  holds : P pair

found_pair : (P : Pair → Type 0) (pairs : List Pair) (name : List ℕ) → has_pair pairs name ≡ true → AllByRecursion P pairs → IsPairOf P (pair_named pairs name) name
found_pair P [] name h all = absurd (true≢false (sym h))
found_pair P (pair ∷ pairs) name h all = by (bytes_eq pair.name name) (bytes_eq-Decides pair.name name).0 h (λ h'. found_pair P pairs name h' all.1)
  where
    by : (here : Bool) → (here ≡ true → pair.name ≡ name) → (here || has_pair pairs name) ≡ true → (has_pair pairs name ≡ true → IsPairOf P (pair_named pairs name) name)
        → IsPairOf P (if here then Some pair else pair_named pairs name) name
    by true same h' others = record { pair = pair; was = refl; named = same refl; holds = all.0 }
    by false same h' others = others h'

-- ---- right and wrong pairs

module _ (fields : List Field) (before : List Pair) (pair : Pair) where
  pub right_is : is_right fields before pair ≡ true → IsRight fields before pair
  right_is h =
      let parts = and_parts (is_some (pair_value fields pair)) (not (is_some (pair_named before pair.name))) h in
      let value = is_value (pair_value fields pair) parts.0 in
      let read = and_then_some (λ (field : Field). value_of field.kind pair.value) (field_named fields pair.name) value.0 value.1 in
      record { field = read.value; named = read.was; value = value.0; written = read.gives; new = sym (pair_found before pair.name) ∙ not-true _ parts.1 }

  -- a text that is a value
  value_is : (field : Field) (value : Datum) → field_named fields pair.name ≡ Some field → value_of field.kind pair.value ≡ Some value → pair_value fields pair ≡ Some value
  value_is field value named written = ap (option_and_then (λ (f : Field). value_of f.kind pair.value)) named ∙ written

  pub right_from : (field : Field) (value : Datum) → field_named fields pair.name ≡ Some field → value_of field.kind pair.value ≡ Some value → has_pair before pair.name ≡ false → is_right fields before pair ≡ true
  right_from field value named written new = and_from _ _ (ap is_some (value_is field value named written)) (ap not (pair_found before pair.name ∙ new))

  pub wrong_is : is_right fields before pair ≡ false → IsWrong fields before pair
  wrong_is h = by_field (field_named fields pair.name) refl
    where
      by_value : (field : Field) → field_named fields pair.name ≡ Some field → (value : Option Datum) → value_of field.kind pair.value ≡ value → (new : Bool) → has_pair before pair.name ≡ new → IsWrong fields before pair
      by_value field named value written true new = inr (inl new)
      by_value field named None written false new = inr (inr (record { field = field; named = named; none = written }))
      by_value field named (Some value) written false new = absurd (true≢false (sym (right_from field value named written new) ∙ h))

      by_field : (field : Option Field) → field_named fields pair.name ≡ field → IsWrong fields before pair
      by_field None named = inl (sym (field_found fields pair.name) ∙ ap is_some named)
      by_field (Some field) named = by_value field named (value_of field.kind pair.value) refl (has_pair before pair.name) refl

module _ (fields : List Field) where
  pub AreRight-push : (earlier before : List Pair) (pair : Pair) → AreRight fields earlier before → IsRight fields (earlier ++ before) pair → AreRight fields earlier (before ++ pair ∷ [])
  AreRight-push earlier [] pair are is = (subst (λ (ps : List Pair). IsRight fields ps pair) (append-nil earlier) is, tt)
  AreRight-push earlier (first ∷ before) pair are is =
      (are.0, AreRight-push (earlier ++ first ∷ []) before pair are.1 (subst (λ (ps : List Pair). IsRight fields ps pair) (sym (append_assoc earlier (first ∷ []) before)) is))

  pub all_right : (before pairs : List Pair) → first_wrong fields before pairs ≡ None → AreRight fields before pairs
  all_right before [] h = tt
  all_right before (pair ∷ pairs) h =
      let test = no_fault (is_right fields before pair) _ _ h in
      (right_is fields before pair test.0, all_right (before ++ pair ∷ []) pairs test.1)

  -- where no pair is wrong, none has the name of one before it
  once : (before pairs : List Pair) → AreRight fields before pairs → AreOnce before pairs
  once before [] are = tt
  once before (pair ∷ pairs) are = (are.0.new, once (before ++ pair ∷ []) pairs are.1)

-- ---- pairs as a map

-- the text of a pair is a value of the field that it names
pub record HasValue (fields : List Field) (pair : Pair) : Type 0 where
  field : Field
  named : field_named fields pair.name ≡ Some field
  value : Datum
  written : value_of field.kind pair.value ≡ Some value

pub have_values : (fields : List Field) (before pairs : List Pair) → AreRight fields before pairs → AllByRecursion (HasValue fields) pairs
have_values fields before [] are = tt
have_values fields before (pair ∷ pairs) are = (record { field = are.0.field; named = are.0.named; value = are.0.value; written = are.0.written }, have_values fields (before ++ pair ∷ []) pairs are.1)

-- a field that a pair names is given a value, and one that is given a value is named
module _ (fields : List Field) (pairs : List Pair) (field : Field) where
  pub given_there : field_named fields field.name ≡ Some field → AllByRecursion (HasValue fields) pairs → has_pair pairs field.name ≡ true → is_some (given pairs field) ≡ true
  given_there own values h =
      let found = found_pair (HasValue fields) pairs field.name h values in
      let same : found.holds.field ≡ field = some_is (sym found.holds.named ∙ ap (field_named fields) found.named ∙ own) in
      ap is_some (ap (option_and_then (λ (pair : Pair). value_of field.kind pair.value)) found.was ∙ ap (λ (f : Field). value_of f.kind found.pair.value) (sym same) ∙ found.holds.written)

  not_named : field_named fields field.name ≡ Some field → AllByRecursion (HasValue fields) pairs → is_some (given pairs field) ≡ false → has_pair pairs field.name ≡ false
  not_named own values h = false_from_ne_true _ (λ there. true≢false (sym (given_there own values there) ∙ h))

  named_there : is_some (given pairs field) ≡ true → has_pair pairs field.name ≡ true
  named_there h =
      let value = is_value (given pairs field) h in
      let read = and_then_some (λ (pair : Pair). value_of field.kind pair.value) (pair_named pairs field.name) value.0 value.1 in
      sym (pair_found pairs field.name) ∙ ap is_some read.was

  -- the value that a row has at the field's name is the one that the pairs give
  given_is : (values : List Datum) (value : Datum) → field_named fields field.name ≡ Some field → value_at fields values field.name ≡ Some value → AllByRecursion (HasPair fields values) pairs
      → has_pair pairs field.name ≡ true → given pairs field ≡ Some value
  given_is values value own there each h =
      let found = found_pair (HasPair fields values) pairs field.name h each in
      let same : found.holds.field ≡ field = some_is (sym found.holds.named ∙ ap (field_named fields) found.named ∙ own) in
      let equal : found.holds.value ≡ value = some_is (sym found.holds.there ∙ ap (value_at fields values) found.named ∙ there) in
      ap (option_and_then (λ (pair : Pair). value_of field.kind pair.value)) found.was ∙ ap (λ (f : Field). value_of f.kind found.pair.value) (sym same) ∙ found.holds.written ∙ ap Some equal

-- where none is missing, each is named
all_named : (fields : List Field) (pairs : List Pair) → first_missing fields pairs ≡ None → AllByRecursion (λ (field : Field). IsTrue (has_pair pairs field.name)) fields
all_named [] pairs h = tt
all_named (field ∷ fields) pairs h =
    let test = no_fault (is_some (given pairs field)) _ _ h in
    (named_there fields pairs field test.0, all_named fields pairs test.1)

module _ (whole : List Field) (pairs : List Pair) (name : List ℕ) (right : AreRight whole [] pairs) where
  pub missing_field : (front fields : List Field) → whole ≡ front ++ fields → AllByRecursion (λ (f : Field). IsTrue (has_pair pairs f.name)) front → AllByRecursion (λ (f : Field). field_named whole f.name ≡ Some f) fields
      → first_missing fields pairs ≡ Some name → IsMissingField whole pairs name
  missing_field front [] cut named own h = absurd (cc)
  missing_field front (field ∷ fields) cut named own h =
      by (is_some (given pairs field)) refl h
      (λ here. missing_field (front ++ field ∷ []) fields (cut ∙ sym (append_assoc front (field ∷ []) fields)) (AllByRecursion-push (λ (f : Field). IsTrue (has_pair pairs f.name)) front field named here) own.1)
    where
      by : (there : Bool) → is_some (given pairs field) ≡ there → (if there then first_missing fields pairs else Some field.name) ≡ Some name
          → (has_pair pairs field.name ≡ true → first_missing fields pairs ≡ Some name → IsMissingField whole pairs name) → IsMissingField whole pairs name
      by true is h' others = others (named_there whole pairs field is) h'
      by false is h' others = record {
        right = right;
        front = front;
        field = field;
        back = fields;
        cut = cut;
        given = named;
        missing = not_named whole pairs field own.0 (have_values whole [] pairs right) is;
        at = some_is h';
      }

-- ---- what pairs that are a row's map give

none_wrong : (fields : List Field) (values : List Datum) (before pairs : List Pair) → AllByRecursion (HasPair fields values) pairs → AreOnce before pairs → first_wrong fields before pairs ≡ None
none_wrong fields values before [] each once = refl
none_wrong fields values before (pair ∷ pairs) each once =
    cond-true _ _ _ (right_from fields before pair each.0.field each.0.value each.0.named each.0.written once.0) ∙ none_wrong fields values (before ++ pair ∷ []) pairs each.1 once.1

module _ (whole : List Field) (all : List Datum) (pairs : List Pair) (each : AllByRecursion (HasPair whole all) pairs) where
  none_missing : (fields : List Field) (values : List Datum) → AllByRecursion (λ (f : Field). field_named whole f.name ≡ Some f) fields → AllZip (λ (f : Field) (v : Datum). value_at whole all f.name ≡ Some v) fields values
      → AllByRecursion (λ (f : Field). IsTrue (has_pair pairs f.name)) fields → (first_missing fields pairs ≡ None) × (values ≡ filter_map (given pairs) fields)
  none_missing [] [] own there named = (refl, refl)
  none_missing [] (value ∷ values) own there named = elim there [ ]
  none_missing (field ∷ fields) [] own there named = elim there [ ]
  none_missing (field ∷ fields) (value ∷ values) own there named =
      let is : given pairs field ≡ Some value = given_is whole pairs field all value own.0 there.0 each named.0 in
      let others = none_missing fields values own.1 there.1 named.1 in (
        cond-true _ _ _ (ap is_some is) ∙ others.0,
        ap (λ (vs : List Datum). value ∷ vs) others.1 ∙ sym (ap (λ o. cons_option o (filter_map (given pairs) fields)) is),
      )

module _ (definition : Definition) (pairs : List Pair) where
  pub row_is : (row : Cells) → IsDefinition definition → IsRowOf definition row → Give definition.fields pairs row → row_of definition pairs ≡ Ok row
  row_is row is of give =
      let none = none_missing definition.fields row.values pairs give.each definition.fields row.values (fields_named definition is) (stand_by_name definition row is of) give.all in
      row_ok definition pairs row.kinds row.values (none_wrong definition.fields row.values [] pairs give.each give.once) none.0 of.kinds none.1

  -- ---- what `build` answers

  abbrev pub given_row : Cells
  given_row = record { kinds = kinds_of definition; values = filter_map (given pairs) definition.fields }

  pub give_is : (wrong : Option BadRow) (missing : Option (List ℕ)) (row : Cells) → first_wrong definition.fields [] pairs ≡ wrong → first_missing definition.fields pairs ≡ missing → row_unless wrong missing given_row ≡ Ok row → Give definition.fields pairs row
  give_is (Some name) missing row w m h = absurd (cc)
  give_is None (Some name) row w m h = absurd (cc)
  give_is None None row w m h =
      let right = all_right definition.fields [] pairs w in
      let same : given_row ≡ row = cc in
      subst (Give definition.fields pairs) same (record {
        once = once definition.fields [] pairs right;
        each = has_pairs definition.fields pairs given_row.values w m refl;
        all = all_named definition.fields pairs m;
      })

  pub build_map : (r : Result Cells RowFault) → IsBuilt r (row_of definition pairs) → IfOk r (Give definition.fields pairs)
  unfolding row_of
  build_map (Ok row) e = give_is (first_wrong definition.fields [] pairs) (first_missing definition.fields pairs) row refl refl e
  build_map (Err fault) e = tt

  pub build_names : (r : Result Cells RowFault) → IsDefinition definition → IfOk r (IsRowOf definition) → IfOk r (λ row. StandByName definition.fields row.values)
  build_names (Ok row) is of = stand_by_name definition row is of
  build_names (Err fault) is of = tt

  pub build_only : (r : Result Cells RowFault) → IsBuilt r (row_of definition pairs) → IsDefinition definition → (row : Cells) → IsRowOf definition row → Give definition.fields pairs row → IsBuilt r (Ok row)
  build_only r e is row of give = subst (IsBuilt r) (row_is row is of give) e
