-- No two fields of an event have one name.
use Rattle.std.proofs.Common.{◌≡◌, ℕ, Bool, true, false, List, [], ◌∷◌, ◌++◌, length, map, bytes_eq, Some, refl, sym, ◌∙◌, subst, arith, append_assoc}
use Rattle.std.specs.List.{AllByRecursion, AllZip}
use Rattle.std.proofs.lemmas.Bool.{or_parts, cond-true, cond-false}
use Rattle.std.proofs.lemmas.List.{length_push}
use Rattle.std.proofs.lemmas.Slice.Eq.{bytes_eq-Decides}
use Rattle.trace_format.specs.declared.event.Field.{Field}
use Rattle.trace_format.specs.Definitions.{Definition, IsDefinition, AreFields, has_field}
use Rattle.trace_format.specs.Cells.{Datum, Cells, Holds, IsRowOf, value_at, StandByName}
use Rattle.trace_format.specs.Rows.{field_named}

pub bytes_eq-swap : (xs ys : List ℕ) → bytes_eq xs ys ≡ bytes_eq ys xs
bytes_eq-swap xs ys = by (bytes_eq xs ys) (bytes_eq ys xs) (λ h. (bytes_eq-Decides ys xs).1 (sym ((bytes_eq-Decides xs ys).0 h))) (λ h. (bytes_eq-Decides xs ys).1 (sym ((bytes_eq-Decides ys xs).0 h)))
  where
    by : (a b : Bool) → (a ≡ true → b ≡ true) → (b ≡ true → a ≡ true) → a ≡ b
    by true b there back = sym (there refl)
    by false true there back = back refl
    by false false there back = refl

-- a field is found by its name behind fields that do not have it
named_behind : (before fields : List Field) (field : Field) → has_field before field.name ≡ false → field_named (before ++ field ∷ fields) field.name ≡ Some field
named_behind [] fields field h = cond-true _ _ _ ((bytes_eq-Decides field.name field.name).1 refl)
named_behind (first ∷ before) fields field h =
    let parts = or_parts (bytes_eq field.name first.name) (has_field before field.name) h in
    cond-false _ _ _ (bytes_eq-swap first.name field.name ∙ parts.0) ∙ named_behind before fields field parts.1

-- a value is found by a name behind fields that do not have it
value_behind : (before fields : List Field) (earlier values : List Datum) (name : List ℕ) → has_field before name ≡ false → length earlier ≡ length before
    → value_at (before ++ fields) (earlier ++ values) name ≡ value_at fields values name
value_behind [] fields [] values name h size = refl
value_behind [] fields (value ∷ earlier) values name h size = absurd (omega (arith, size))
value_behind (first ∷ before) fields [] values name h size = absurd (omega (arith, size))
value_behind (first ∷ before) fields (value ∷ earlier) values name h size =
    let parts = or_parts (bytes_eq name first.name) (has_field before name) h in
    cond-false _ _ _ (bytes_eq-swap first.name name ∙ parts.0) ∙ value_behind before fields earlier values name parts.1 (omega (arith, size))

each_named : (before fields : List Field) → AreFields before fields → AllByRecursion (λ (field : Field). field_named (before ++ fields) field.name ≡ Some field) fields
each_named before [] are = tt
each_named before (field ∷ fields) are = (
  named_behind before fields field are.0.new,
  subst (λ (all : List Field). AllByRecursion (λ (f : Field). field_named all f.name ≡ Some f) fields) (append_assoc before (field ∷ []) fields) (each_named (before ++ field ∷ []) fields are.1),
)

-- each field is found by its name
pub fields_named : (definition : Definition) → IsDefinition definition → AllByRecursion (λ (field : Field). field_named definition.fields field.name ≡ Some field) definition.fields
fields_named definition is = each_named [] definition.fields is.fields

each_value : (before fields : List Field) (earlier values : List Datum) → AreFields before fields → length earlier ≡ length before → AllZip Holds (map (λ (f : Field). f.kind) fields) values
    → AllZip (λ (field : Field) (value : Datum). value_at (before ++ fields) (earlier ++ values) field.name ≡ Some value) fields values
each_value before [] earlier [] are size held = tt
each_value before [] earlier (value ∷ values) are size held = elim held [ ]
each_value before (field ∷ fields) earlier [] are size held = elim held [ ]
each_value before (field ∷ fields) earlier (value ∷ values) are size held =
    let longer : length (earlier ++ value ∷ []) ≡ length (before ++ field ∷ []) = omega (arith, size, length_push earlier value, length_push before field) in
    let others = each_value (before ++ field ∷ []) fields (earlier ++ value ∷ []) values are.1 longer held.1 in (
      value_behind before (field ∷ fields) earlier (value ∷ values) field.name are.0.new size ∙ cond-true _ _ _ ((bytes_eq-Decides field.name field.name).1 refl),
      subst (λ (all : List Field). AllZip (λ (f : Field) (v : Datum). value_at all (earlier ++ value ∷ values) f.name ≡ Some v) fields values) (append_assoc before (field ∷ []) fields)
          (subst (λ (vs : List Datum). AllZip (λ (f : Field) (v : Datum). value_at ((before ++ field ∷ []) ++ fields) vs f.name ≡ Some v) fields values) (append_assoc earlier (value ∷ []) values) others),
    )

-- in a row of an event, the value at each field's name is the one in the field's index
pub stand_by_name : (definition : Definition) (row : Cells) → IsDefinition definition → IsRowOf definition row → StandByName definition.fields row.values
stand_by_name definition row is row_is = each_value [] definition.fields [] row.values is.fields refl (subst (λ k. AllZip Holds k row.values) row_is.kinds row_is.values)
