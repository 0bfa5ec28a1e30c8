-- The grammar of patterns: what they are written of, and which parts that means.
use Rattle.std.specs.Prelude.{◌≡◌, ◌≢◌, ℕ, Bool, true, false, List, [], ◌∷◌, ◌++◌, map}
use Rattle.std.specs.List.{flat_map, AllByRecursion}
use Rattle.trace_filter.specs.Globs.{Element, AnyBytes, OneByte}

-- a piece of a pattern: `*`, `?`, a class with one byte or more between its brackets, or a byte that stands for itself
pub data GlobPiece : Type 0 where
  Star : GlobPiece
  Question : GlobPiece
  Bracketed : (negated : Bool) (first : ℕ) (others : List ℕ) → GlobPiece
  Plain : (byte : ℕ) → GlobPiece

-- the first byte of a class is any, but a `!` (33) only in a negated one; none of the others is a `]` (93)
abbrev pub IsClass : Bool → ℕ → List ℕ → Type 0
IsClass true first others = AllByRecursion (λ b. b ≢ 93) others
IsClass false first others = (first ≢ 33) × AllByRecursion (λ b. b ≢ 93) others

-- how a class is written behind its `[`: a negated one with a `!`
abbrev pub class_text : Bool → ℕ → List ℕ → List ℕ
class_text true first others = 33 ∷ first ∷ others ++ 93 ∷ []
class_text false first others = first ∷ others ++ 93 ∷ []

-- bytes that begin with a class whose `[` stands before them
pub record BeginsClass (bytes : List ℕ) : Type 0 where
  pub negated : Bool
  pub first : ℕ
  pub others : List ℕ
  pub rest : List ℕ
  pub lawful : IsClass negated first others
  pub text : class_text negated first others ++ rest ≡ bytes

-- a piece before these bytes: a byte that stands for itself is no `*` (42) and no `?` (63), and it is a `[` (91) only where no class begins
-- with that
abbrev pub IsPieceBefore : List ℕ → GlobPiece → Type 0
IsPieceBefore bytes Star = Unit {0}
IsPieceBefore bytes Question = Unit {0}
IsPieceBefore bytes (Bracketed negated first others) = IsClass negated first others
IsPieceBefore bytes (Plain byte) = (byte ≢ 42) × (byte ≢ 63) × (byte ≡ 91 → BeginsClass bytes → ⊥)

-- how a piece is written
abbrev pub piece_text : GlobPiece → List ℕ
piece_text Star = 42 ∷ []
piece_text Question = 63 ∷ []
piece_text (Bracketed negated first others) = 91 ∷ class_text negated first others
piece_text (Plain byte) = byte ∷ []

-- the part that a piece means: `?` is the class of all bytes, a byte that stands for itself is a class of one
abbrev pub piece_part : GlobPiece → Element
piece_part Star = AnyBytes
piece_part Question = OneByte (record { negated = true; members = [] })
piece_part (Bracketed negated first others) = OneByte (record { negated = negated; members = first ∷ others })
piece_part (Plain byte) = OneByte (record { negated = false; members = byte ∷ [] })

-- the pieces of a pattern, in order
abbrev pub IsPattern : List GlobPiece → Type 0
IsPattern [] = Unit {0}
IsPattern (piece ∷ pieces) = IsPieceBefore (flat_map piece_text pieces) piece × IsPattern pieces

-- a pattern can be written of pieces that mean these parts
pub record IsWrittenGlob (pattern : List ℕ) (parts : List Element) : Type 0 where
  pub pieces : List GlobPiece
  pub lawful : IsPattern pieces
  pub text : flat_map piece_text pieces ≡ pattern
  pub meaning : map piece_part pieces ≡ parts
