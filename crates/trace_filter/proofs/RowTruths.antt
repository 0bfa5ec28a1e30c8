-- The tests of a filter decide what they say, in a row of the event.
use Rattle.std.proofs.Common.{◌≡◌, ◌↔◌, ℕ, suc, ◌+◌, ◌<◌, ◌≤◌, ◌==◌, nat_lt, nat_le, ℤ, pos, ◌≤ℤ◌, bit_and, bytes_eq, codes, Bool, true, false, IsTrue, T, if◌then◌else◌, List, [], ◌∷◌, ◌++◌, length, map, Option, None, Some, is_some, unwrap_or, refl, sym, ap, ◌∙◌, subst, arith, lt-ltb, eqb→eq, eq-eqb, add-zero}
use Rattle.std.specs.Prelude.{int_le, slice_get}
use Rattle.std.specs.Ordering.{int_eq}
use Rattle.std.specs.Bool.{passes}
use Rattle.std.specs.Int.Signed.{le_z_yes}
use Rattle.std.specs.List.{AllZip}
use Rattle.std.proofs.lemmas.Bool.{and_parts, and_from, leb-true}
use Rattle.std.proofs.lemmas.Bool.Decides.{Decides-int_eq}
use Rattle.std.proofs.lemmas.Slice.Eq.{bytes_eq-Decides}
use Rattle.trace_format.specs.declared.kind.Kind.{Kind}
use Rattle.trace_format.specs.declared.kind.Kind.TheVariants as kind
use Rattle.trace_format.specs.declared.event.Field.{Field}
use Rattle.trace_format.specs.declared.operand.Operand.{Operand}
use Rattle.trace_format.specs.declared.operand.Operand.TheVariants as operands
use Rattle.trace_lex.specs.Numbers.{number_of}
use Rattle.trace_format.specs.Kinds.{is_text_kind}
use Rattle.trace_format.specs.Cells.{Datum, Whole, Bytes, Cells, Holds, IsRowOf}
use Rattle.trace_format.specs.Operands.{Emission, operand_from, operand_named, is_text, operand_value}
use Rattle.trace_format.specs.Definitions.{Definition, AreFields, IsDefinition, is_kind}
use Rattle.trace_filter.specs.declared.token.Comparison.{Comparison}
use Rattle.trace_filter.specs.declared.token.Comparison.TheVariants as comparison
use Rattle.trace_filter.specs.Tokens.{Literal, Word, Quoted}
use Rattle.trace_filter.specs.Globs.{parts_of}
use Rattle.trace_filter.specs.Marks.{is_match}
use Rattle.trace_filter.specs.Fields.{fits_at}
use Rattle.trace_filter.specs.Truth.{pattern_of, NumbersCompare, TextsCompare, literal_bytes, NumberCompares, DatumCompares}
use Rattle.trace_filter.specs.Tests.{number_test, text_test}
use Rattle.trace_filter.specs.Steps.{datum_at, test_of}
use Rattle.trace_filter.proofs.Options.{some_is}
use Rattle.trace_filter.proofs.GlobLemmas.{is_match-Decides}
use Rattle.trace_filter.proofs.Truths.{TestsDecide, not_decides}

wrong : false ≡ true → ⊥
wrong h = cc

never : (P : Type 0) → (P → ⊥) → (false ≡ true) ↔ P
never P n = ((λ h. absurd (wrong h)), (λ p. absurd (n p)))

texts_decide : (by : Comparison) (a b : List ℕ) → length a < 256 → (text_test by a b ≡ true) ↔ TextsCompare by a b
texts_decide comparison.Eq a b h = ((bytes_eq-Decides a b).0, (bytes_eq-Decides a b).1)
texts_decide comparison.Ne a b h = not_decides (a ≡ b) (bytes_eq a b) ((bytes_eq-Decides a b).0, (bytes_eq-Decides a b).1)
texts_decide comparison.Le a b h = never ⊥ (λ p. p)
texts_decide comparison.Ge a b h = never ⊥ (λ p. p)
texts_decide comparison.Lt a b h = never ⊥ (λ p. p)
texts_decide comparison.Gt a b h = never ⊥ (λ p. p)
texts_decide comparison.BitAnd a b h = never ⊥ (λ p. p)
texts_decide comparison.Glob a b h =
    let glob = is_match-Decides (parts_of b) a in
    ((λ t. glob.0 (and_parts (nat_lt (length a) 256) (is_match (parts_of b) a) t).1), (λ m. and_from (nat_lt (length a) 256) (is_match (parts_of b) a) (lt-ltb (length a) 256 h) (glob.1 m)))

at_most : (a b : ℤ) → (int_le a b ≡ true) ↔ (a ≤ℤ b)
at_most a b = ((λ h. le_z_yes (passes (int_le a b) h)), (λ p. is_true (int_le a b) p.le))
  where
    is_true : (t : Bool) → T t → t ≡ true
    is_true true h = refl
    is_true false h = absurd h

no_bits : (a b : ℤ) → ((bit_and (pattern_of a) (pattern_of b) == 0) ≡ true) ↔ (bit_and (pattern_of a) (pattern_of b) ≡ 0)
no_bits a b = ((λ h. eqb→eq (bit_and (pattern_of a) (pattern_of b)) 0 (passes (bit_and (pattern_of a) (pattern_of b) == 0) h)), (λ h. eq-eqb (bit_and (pattern_of a) (pattern_of b)) 0 h))

numbers_decide : (by : Comparison) (a b : ℤ) → (number_test by a b ≡ true) ↔ NumbersCompare by a b
numbers_decide comparison.Eq a b = ((Decides-int_eq a b).0, (Decides-int_eq a b).1)
numbers_decide comparison.Ne a b = not_decides (a ≡ b) (int_eq a b) ((Decides-int_eq a b).0, (Decides-int_eq a b).1)
numbers_decide comparison.Le a b = at_most a b
numbers_decide comparison.Ge a b = at_most b a
numbers_decide comparison.Lt a b = not_decides (b ≤ℤ a) (int_le b a) (at_most b a)
numbers_decide comparison.Gt a b = not_decides (a ≤ℤ b) (int_le a b) (at_most a b)
numbers_decide comparison.BitAnd a b = not_decides (bit_and (pattern_of a) (pattern_of b) ≡ 0) (bit_and (pattern_of a) (pattern_of b) == 0) (no_bits a b)
numbers_decide comparison.Glob a b = never ⊥ (λ p. p)

-- ---- values of a type

abbrev HasType : Bool → Option Datum → Type 0
HasType true o = (bytes : List ℕ) × (o ≡ Some (Bytes bytes)) × (length bytes < 256)
HasType false o = (z : ℤ) × (o ≡ Some (Whole z))

number_decides : (by : Comparison) (z : ℤ) (n : Option ℤ) → is_some n ≡ true → (number_test by z (unwrap_or n (pos 0)) ≡ true) ↔ NumberCompares by z n
number_decides by z (Some n) h = numbers_decide by z n
number_decides by z None h = absurd (wrong h)

test_decides : (by : Comparison) (text : Bool) (o : Option Datum) (literal : Literal) → HasType text o → fits_at text literal ≡ true → (test_of by o (datum_at text literal) ≡ true) ↔ DatumCompares by o literal
test_decides by true o literal (bytes, is, short) fits =
    subst (λ o. (test_of by o (datum_at true literal) ≡ true) ↔ DatumCompares by o literal) (sym is) (texts_decide by bytes (literal_bytes literal) short)
test_decides by false o (Word w) (z, is) fits =
    subst (λ o. (test_of by o (datum_at false (Word w)) ≡ true) ↔ DatumCompares by o (Word w)) (sym is) (number_decides by z (number_of w) fits)
test_decides by false o (Quoted w) (z, is) fits = absurd (wrong fits)

module _ (emission : Emission) (name : List ℕ) where
  field_type : (k : Kind) (v : Datum) (offset : ℕ) → Holds k v → IsTrue (is_kind k) → slice_get emission.values offset ≡ Some v → HasType (is_text_kind k) (slice_get emission.values offset)
  field_type (kind.Number t) (Whole z) offset holds sized at = (z, at)
  field_type (kind.Number t) (Bytes b) offset holds sized at = absurd holds
  field_type (kind.Char n) (Whole z) offset holds sized at = absurd holds
  field_type (kind.Char n) (Bytes b) offset holds sized at =
      let small : n ≤ 64 = leb-true n 64 (and_parts (nat_le 1 n) (nat_le n 64) sized).1 in
      (b, at, omega (arith, holds.0, small))

  types_from : (offset : ℕ) (before fields : List Field) (values : List Datum) → AllZip Holds (map (λ field. field.kind) fields) values → AreFields before fields
      → ((k : ℕ) → slice_get emission.values (offset + k) ≡ slice_get values k) → (subject : Operand) → operand_from offset fields name ≡ Some subject → HasType (is_text subject) (operand_value emission subject)
  types_from offset before [] values holds are at subject h = absurd (cc)
  types_from offset before (field ∷ fields) [] holds are at subject h = absurd holds
  types_from offset before (field ∷ fields) (v ∷ values) holds are at subject h =
      by (bytes_eq field.name name) (types_from (offset + 1) (before ++ field ∷ []) fields values holds.1 are.1 (λ k. ap (slice_get emission.values) (next k) ∙ at (suc k)) subject) h
    where
      next : (k : ℕ) → offset + 1 + k ≡ offset + suc k
      next k = omega arith

      by : (same : Bool) → (operand_from (offset + 1) fields name ≡ Some subject → HasType (is_text subject) (operand_value emission subject))
          → (if same then Some (operands.Field offset (is_text_kind field.kind)) else operand_from (offset + 1) fields name) ≡ Some subject → HasType (is_text subject) (operand_value emission subject)
      by true later h = subst (λ s. HasType (is_text s) (operand_value emission s)) (some_is h) (field_type field.kind v offset holds.0 are.0.sized (ap (slice_get emission.values) (sym (add-zero offset)) ∙ at 0))
      by false later h = later h

  named_type : (definition : Definition) (row : Cells) → IsDefinition definition → IsRowOf definition row → emission.values ≡ row.values → (subject : Operand) → operand_named definition.fields name ≡ Some subject
      → HasType (is_text subject) (operand_value emission subject)
  unfolding operand_named
  named_type definition row is is_row same subject h =
      by (bytes_eq name (codes "common_pid")) (bytes_eq name (codes "common_cpu"))
      (types_from 0 [] definition.fields row.values (subst (λ k. AllZip Holds k row.values) is_row.kinds is_row.values) is.fields (λ k. ap (slice_get emission.values) (zero_add k) ∙ ap (λ v. slice_get v k) same) subject) h
    where
      zero_add : (k : ℕ) → 0 + k ≡ k
      zero_add k = omega arith

      by : (p q : Bool) → (operand_from 0 definition.fields name ≡ Some subject → HasType (is_text subject) (operand_value emission subject))
          → (if p then Some operands.Pid else if q then Some operands.Cpu else operand_from 0 definition.fields name) ≡ Some subject → HasType (is_text subject) (operand_value emission subject)
      by true q later h = subst (λ s. HasType (is_text s) (operand_value emission s)) (some_is h) (emission.pid, refl)
      by false true later h = subst (λ s. HasType (is_text s) (operand_value emission s)) (some_is h) (pos emission.cpu, refl)
      by false false later h = later h

pub tests_decide : (definition : Definition) (row : Cells) (emission : Emission) → IsDefinition definition → IsRowOf definition row → emission.values ≡ row.values → TestsDecide definition.fields emission
tests_decide definition row emission is is_row same name subject by literal named takes fits =
    test_decides by (is_text subject) (operand_value emission subject) literal (named_type emission name definition row is is_row same subject named) fits
