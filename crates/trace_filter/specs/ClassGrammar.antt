-- The grammar of a class: the members that its bytes are written of, and which bytes these have.
use Rattle.std.specs.Prelude.{◌≡◌, ◌≤◌, ℕ, Bool, true, false, List, [], ◌∷◌, Any}
use Rattle.std.specs.List.{flat_map}
use Rattle.trace_filter.specs.Globs.{Class}

-- a member of a class: one byte, or the bytes from a lower to an upper one
pub data Member : Type 0 where
  Single : (byte : ℕ) → Member
  Span : (lower upper : ℕ) → Member

-- how a member is written: a span with a `-` (45) between its ends
abbrev pub member_text : Member → List ℕ
member_text (Single byte) = byte ∷ []
member_text (Span lower upper) = lower ∷ 45 ∷ upper ∷ []

-- which bytes a member has; a span that falls has none
abbrev pub Has : ℕ → Member → Type 0
Has b (Single byte) = b ≡ byte
Has b (Span lower upper) = (lower ≤ b) × (b ≤ upper)

-- a `-` and one more byte
pub record GoesOn (bytes : List ℕ) : Type 0 where
  pub upper : ℕ
  pub rest : List ℕ
  pub text : 45 ∷ upper ∷ rest ≡ bytes

-- a member before these bytes: a single byte is followed by no `-` and one more byte, since the three are a span
abbrev pub IsMemberBefore : List ℕ → Member → Type 0
IsMemberBefore bytes (Single byte) = GoesOn bytes → ⊥
IsMemberBefore bytes (Span lower upper) = Unit {0}

-- the members of a class, in order
abbrev pub AreMembers : List Member → Type 0
AreMembers [] = Unit {0}
AreMembers (member ∷ members) = IsMemberBefore (flat_map member_text members) member × AreMembers members

-- the bytes of a class, after its `[` or `[!` and before its `]`, can be written of these members
pub record AreWrittenOf (bytes : List ℕ) (members : List Member) : Type 0 where
  pub lawful : AreMembers members
  pub text : flat_map member_text members ≡ bytes

-- a byte is one of those that the bytes write: they can be written of members one of which has it
pub record IsWrittenIn (bytes : List ℕ) (b : ℕ) : Type 0 where
  pub members : List Member
  pub written : AreWrittenOf bytes members
  pub has : Any (Has b) members

-- a class holds the bytes that its members write; a negated one, all others
abbrev pub HoldsFrom : Bool → List ℕ → ℕ → Type 0
HoldsFrom true bytes b = IsWrittenIn bytes b → ⊥
HoldsFrom false bytes b = IsWrittenIn bytes b

abbrev pub ClassHolds : Class → ℕ → Type 0
ClassHolds class b = HoldsFrom class.negated class.members b
