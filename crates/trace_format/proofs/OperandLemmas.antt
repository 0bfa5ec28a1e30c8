-- The value of a field's name is the one that the row has at the name.
use Rattle.std.proofs.Common.{◌≡◌, ℕ, suc, ◌+◌, Bool, true, false, if◌then◌else◌, bytes_eq, List, [], ◌∷◌, Option, None, Some, option_and_then, refl, sym, ap, ◌∙◌, arith, add-zero}
use Rattle.std.specs.Prelude.{slice_get}
use Rattle.trace_format.specs.declared.event.Field.{Field}
use Rattle.trace_format.specs.declared.operand.Operand.TheVariants as operands
use Rattle.trace_format.specs.Kinds.{is_text_kind}
use Rattle.trace_format.specs.Cells.{Datum, value_at}
use Rattle.trace_format.specs.Operands.{Emission, operand_from, operand_value}

module _ (emission : Emission) (name : List ℕ) where
  abbrev value_from : ℕ → List Field → Option Datum
  value_from index fields = option_and_then (operand_value emission) (operand_from index fields name)

  next : (index k : ℕ) → index + 1 + k ≡ index + suc k
  next index k = omega arith

  from_is : (fields : List Field) (values : List Datum) (index : ℕ) → ((k : ℕ) → slice_get emission.values (index + k) ≡ slice_get values k) → value_from index fields ≡ value_at fields values name
  from_is [] values index at = refl
  from_is (field ∷ fields) [] index at =
      by (bytes_eq field.name name) (from_is fields [] (index + 1) (λ k. ap (slice_get emission.values) (next index k) ∙ at (suc k)) ∙ nothing_at fields)
    where
      nothing_at : (fields : List Field) → value_at fields [] name ≡ None
      nothing_at [] = refl
      nothing_at (field ∷ fields) = refl

      by : (same : Bool) → value_from (index + 1) fields ≡ None
          → option_and_then (operand_value emission) (if same then Some (operands.Field index (is_text_kind field.kind)) else operand_from (index + 1) fields name) ≡ None
      by true later = ap (slice_get emission.values) (sym (add-zero index)) ∙ at 0
      by false later = later
  from_is (field ∷ fields) (value ∷ values) index at =
      by (bytes_eq field.name name) (from_is fields values (index + 1) (λ k. ap (slice_get emission.values) (next index k) ∙ at (suc k)))
    where
      by : (same : Bool) → value_from (index + 1) fields ≡ value_at fields values name
          → option_and_then (operand_value emission) (if same then Some (operands.Field index (is_text_kind field.kind)) else operand_from (index + 1) fields name)
          ≡ (if same then Some value else value_at fields values name)
      by true later = ap (slice_get emission.values) (sym (add-zero index)) ∙ at 0
      by false later = later

pub operand_by_name : (fields : List Field) (emission : Emission) (name : List ℕ) → option_and_then (operand_value emission) (operand_from 0 fields name) ≡ value_at fields emission.values name
operand_by_name fields emission name = from_is emission name fields emission.values 0 (λ k. ap (slice_get emission.values) (zero_add k))
  where
    zero_add : (k : ℕ) → 0 + k ≡ k
    zero_add k = omega arith
