-- Which row pairs of names and texts give, and where other pairs are refused.
use Rattle.std.specs.Prelude.{◌≡◌, ◌⊎◌, ℕ, Bool, false, bytes_eq, IsTrue, List, [], ◌∷◌, ◌++◌, None, Some, is_some}
use Rattle.std.specs.List.{list_any, AllByRecursion}
use Rattle.trace_format.specs.declared.event.Field.{Field}
use Rattle.trace_format.specs.declared.pair.Pair.{Pair}
use Rattle.trace_format.specs.declared.fault.RowFault.{RowFault}
use Rattle.trace_format.specs.declared.fault.RowFault.TheVariants.{BadRow, Memory}
use Rattle.trace_format.specs.Definitions.{Definition, has_field}
use Rattle.trace_format.specs.Cells.{Datum, Cells, value_at}
use Rattle.trace_format.specs.Rows.{value_of, field_named}

-- whether a pair has the name
abbrev pub has_pair : List Pair → List ℕ → Bool
has_pair pairs name = list_any (λ pair. bytes_eq pair.name name) pairs

-- ---- the row

-- the text of a pair is a value of the field that it names, and the row has it there
pub record HasPair (fields : List Field) (values : List Datum) (pair : Pair) : Type 0 where
  pub field : Field
  pub named : field_named fields pair.name ≡ Some field
  pub value : Datum
  pub written : value_of field.kind pair.value ≡ Some value
  pub there : value_at fields values pair.name ≡ Some value

-- a pair names this field, and its text is a value of it
pub record GivesValue (field : Field) (pair : Pair) : Type 0 where
  pub name : field.name ≡ pair.name
  pub value : IsTrue (is_some (value_of field.kind pair.value))

-- no pair has the name of one before it
abbrev pub AreOnce : List Pair → List Pair → Type 0
AreOnce before [] = Unit {0}
AreOnce before (pair ∷ pairs) = (has_pair before pair.name ≡ false) × AreOnce (before ++ pair ∷ []) pairs

-- the pairs, as a map from names, are the row: none stands twice, the row has each, and each field has one
pub record Give (fields : List Field) (pairs : List Pair) (row : Cells) : Type 0 where
  pub once : AreOnce [] pairs
  pub each : AllByRecursion (HasPair fields row.values) pairs
  pub all : AllByRecursion (λ field. IsTrue (has_pair pairs field.name)) fields

-- ---- where pairs are refused

-- a pair is right behind others: its text is a value of the field that it names, and none of them has its name
pub record IsRight (fields : List Field) (before : List Pair) (pair : Pair) : Type 0 where
  pub field : Field
  pub named : field_named fields pair.name ≡ Some field
  pub value : Datum
  pub written : value_of field.kind pair.value ≡ Some value
  pub new : has_pair before pair.name ≡ false

abbrev pub AreRight : List Field → List Pair → List Pair → Type 0
AreRight fields before [] = Unit {0}
AreRight fields before (pair ∷ pairs) = IsRight fields before pair × AreRight fields (before ++ pair ∷ []) pairs

-- the text of a pair is no value of the field that it names
pub record HasNoValue (fields : List Field) (pair : Pair) : Type 0 where
  pub field : Field
  pub named : field_named fields pair.name ≡ Some field
  pub none : value_of field.kind pair.value ≡ None

-- a pair is wrong behind others: no field has its name, or one of them has it, or its text is no value of its field
abbrev pub IsWrong : List Field → List Pair → Pair → Type 0
IsWrong fields before pair = (has_field fields pair.name ≡ false) ⊎ (IsTrue (has_pair before pair.name) ⊎ HasNoValue fields pair)

-- a pair of the name is wrong, and all before it are right
pub record IsWrongPair (fields : List Field) (pairs : List Pair) (name : List ℕ) : Type 0 where
  pub front : List Pair
  pub pair : Pair
  pub back : List Pair
  pub cut : pairs ≡ front ++ pair ∷ back
  pub right : AreRight fields [] front
  pub wrong : IsWrong fields front pair
  pub at : pair.name ≡ name

-- all pairs are right, none names the field of the name, and each field before it is named
pub record IsMissingField (fields : List Field) (pairs : List Pair) (name : List ℕ) : Type 0 where
  pub right : AreRight fields [] pairs
  pub front : List Field
  pub field : Field
  pub back : List Field
  pub cut : fields ≡ front ++ field ∷ back
  pub given : AllByRecursion (λ other. IsTrue (has_pair pairs other.name)) front
  pub missing : has_pair pairs field.name ≡ false
  pub at : field.name ≡ name

-- where pairs are refused: at the first that is wrong, else at the first field that none names; or for memory
abbrev pub IsRefusedRow : Definition → List Pair → RowFault → Type 0
IsRefusedRow definition pairs (BadRow bad) = IsWrongPair definition.fields pairs bad.field ⊎ IsMissingField definition.fields pairs bad.field
IsRefusedRow definition pairs Memory = Unit {0}
