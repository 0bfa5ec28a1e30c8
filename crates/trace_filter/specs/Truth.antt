-- When a filter holds of a row, a CPU and a process.
use Rattle.std.specs.Prelude.{◌≡◌, ◌⊎◌, ℕ, ◌-◌, ◌%◌, ◌^◌, ℤ, pos, negsuc, ◌≤ℤ◌, bit_and, List, Option, None, Some}
use Rattle.trace_format.specs.declared.event.Field.{Field}
use Rattle.trace_lex.specs.Numbers.{number_of}
use Rattle.trace_format.specs.Cells.{Datum, Whole, Bytes}
use Rattle.trace_format.specs.Operands.{Emission, value_named}
use Rattle.trace_filter.specs.declared.token.Comparison.{Comparison}
use Rattle.trace_filter.specs.declared.token.Comparison.TheVariants as comparison
use Rattle.trace_filter.specs.Tokens.{Literal, Word, Quoted}
use Rattle.trace_filter.specs.Grammar.{Expr, AllOf, Or, Conj, Only, And, Unary, Not, Group, Test}
use Rattle.trace_filter.specs.Globs.{parts_of, Matches}

-- the 64 low bits of a number's two's complement
abbrev pub pattern_of : ℤ → ℕ
pattern_of (pos n) = n % 2 ^ 64
pattern_of (negsuc n) = 2 ^ 64 - 1 - n % 2 ^ 64

-- how two numbers compare, as whole numbers of any size; for `&`, whether their patterns share a bit
abbrev pub NumbersCompare : Comparison → ℤ → ℤ → Type 0
NumbersCompare comparison.Eq a b = a ≡ b
NumbersCompare comparison.Ne a b = a ≡ b → ⊥
NumbersCompare comparison.Le a b = a ≤ℤ b
NumbersCompare comparison.Ge a b = b ≤ℤ a
NumbersCompare comparison.Lt a b = b ≤ℤ a → ⊥
NumbersCompare comparison.Gt a b = a ≤ℤ b → ⊥
NumbersCompare comparison.BitAnd a b = bit_and (pattern_of a) (pattern_of b) ≡ 0 → ⊥
NumbersCompare comparison.Glob a b = ⊥

-- how two texts compare: byte for byte; for `~`, the second as a pattern of all of the first
abbrev pub TextsCompare : Comparison → List ℕ → List ℕ → Type 0
TextsCompare comparison.Eq a b = a ≡ b
TextsCompare comparison.Ne a b = a ≡ b → ⊥
TextsCompare comparison.Le a b = ⊥
TextsCompare comparison.Ge a b = ⊥
TextsCompare comparison.Lt a b = ⊥
TextsCompare comparison.Gt a b = ⊥
TextsCompare comparison.BitAnd a b = ⊥
TextsCompare comparison.Glob a b = Matches (parts_of b) a

abbrev pub literal_bytes : Literal → List ℕ
literal_bytes (Word bytes) = bytes
literal_bytes (Quoted bytes) = bytes

-- the NUMBER that a bare word writes; a quoted value is none
abbrev pub literal_number : Literal → Option ℤ
literal_number (Word bytes) = number_of bytes
literal_number (Quoted bytes) = None

-- a number is compared with the NUMBER that a value writes, a text with the value's bytes
abbrev pub NumberCompares : Comparison → ℤ → Option ℤ → Type 0
NumberCompares by a None = ⊥
NumberCompares by a (Some b) = NumbersCompare by a b

abbrev pub DatumCompares : Comparison → Option Datum → Literal → Type 0
DatumCompares by None literal = ⊥
DatumCompares by (Some (Whole a)) literal = NumberCompares by a (literal_number literal)
DatumCompares by (Some (Bytes a)) literal = TextsCompare by a (literal_bytes literal)

-- truth by cases on a filter's tree
abbrev mutual
  pub Holds : List Field → Emission → Expr → Type 0
  Holds fields emission (AllOf c) = ConjHolds fields emission c
  Holds fields emission (Or e c) = Holds fields emission e ⊎ ConjHolds fields emission c

  pub ConjHolds : List Field → Emission → Conj → Type 0
  ConjHolds fields emission (Only u) = UnaryHolds fields emission u
  ConjHolds fields emission (And c u) = ConjHolds fields emission c × UnaryHolds fields emission u

  pub UnaryHolds : List Field → Emission → Unary → Type 0
  UnaryHolds fields emission (Not u) = UnaryHolds fields emission u → ⊥
  UnaryHolds fields emission (Group e) = Holds fields emission e
  UnaryHolds fields emission (Test name by literal) = DatumCompares by (value_named fields emission name) literal
