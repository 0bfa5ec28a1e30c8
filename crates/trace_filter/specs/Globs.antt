-- Globs: which texts a pattern matches.
use Rattle.std.specs.Prelude.{◌≡◌, ℕ, zero, suc, ◌+◌, Bool, true, false, not, ◌&&◌, ◌==◌, nat_lt, nat_le, IsTrue, if◌then◌else◌, List, [], ◌∷◌, ◌++◌, length, take}
use Rattle.std.specs.List.{prefix_len, list_any}
use Rattle.trace_lex.specs.Prefixes.{is_not}

-- from the lower to the upper byte; nothing, where they fall
pub record Range : Type 0 where
  pub lower : ℕ
  pub upper : ℕ

abbrev pub is_in_range : ℕ → Range → Bool
is_in_range b range = nat_le range.lower b && nat_le b range.upper

-- the ranges that the bytes of a class write, read from the left: two bytes with a `-` (45) between them are a range, another byte is itself
abbrev pub ranges_of : List ℕ → List Range
ranges_of [] = []
ranges_of (a ∷ []) = record { lower = a; upper = a } ∷ []
ranges_of (a ∷ b ∷ []) = record { lower = a; upper = a } ∷ ranges_of (b ∷ [])
ranges_of (a ∷ b ∷ c ∷ bs) = if b == 45 then record { lower = a; upper = c } ∷ ranges_of bs else (record { lower = a; upper = a } ∷ ranges_of (b ∷ c ∷ bs))

-- a class: the bytes that its members write, or all others
pub record Class : Type 0 where
  pub negated : Bool
  pub members : List ℕ

abbrev pub is_other : Bool → Bool → Bool
is_other true found = not found
is_other false found = found

abbrev pub is_member : List ℕ → ℕ → Bool
is_member members b = list_any (is_in_range b) (ranges_of members)

abbrev pub is_in_class : Class → ℕ → Bool
is_in_class class b = is_other class.negated (is_member class.members b)

-- `*`, any bytes; or one byte of a class
pub data Element : Type 0 where
  AnyBytes : Element
  OneByte : Class → Element

-- a part, and how many bytes behind its first it takes
pub record ReadElement : Type 0 where
  pub part : Element
  pub more : ℕ

-- a byte that stands for itself
abbrev pub itself : ℕ → ReadElement
itself b = record { part = OneByte (record { negated = false; members = b ∷ [] }); more = 0 }

-- a class with so many bytes between the `[` and its members, whose first may be a `]` (93); a `[` (91) without its `]` is itself
abbrev pub class_from : Bool → ℕ → List ℕ → ReadElement
class_from negated before [] = itself 91
class_from negated before (b ∷ bs) = if nat_lt (prefix_len (is_not 93) bs) (length bs)
    then record { part = OneByte (record { negated = negated; members = b ∷ take (prefix_len (is_not 93) bs) bs }); more = before + (prefix_len (is_not 93) bs + 2) }
    else itself 91

-- behind a `[`: a leading `!` (33) negates
abbrev pub class_piece : List ℕ → ReadElement
class_piece [] = itself 91
class_piece (b ∷ bs) = if b == 33 then class_from true 1 bs else class_from false 0 (b ∷ bs)

-- the part that begins with the byte b before bs: `*` (42), `?` (63), a class, or a byte that is itself
unfoldable pub part_of : ℕ → List ℕ → ReadElement
part_of b bs = if b == 42 then record { part = AnyBytes; more = 0 }
    else if b == 63 then record { part = OneByte (record { negated = true; members = [] }); more = 0 }
    else if b == 91 then class_piece bs
    else itself b

-- the parts of a pattern, where `skip` more bytes belong to the part before
abbrev pub parts_from : ℕ → List ℕ → List Element
parts_from skip [] = []
parts_from (suc skip) (b ∷ bs) = parts_from skip bs
parts_from zero (b ∷ bs) = (part_of b bs).part ∷ parts_from (part_of b bs).more bs

abbrev pub parts_of : List ℕ → List Element
parts_of pattern = parts_from 0 pattern

-- parts match a text: `*` where some split of it does, a class where its first byte is in it
abbrev pub Matches : List Element → List ℕ → Type 0
Matches [] text = text ≡ []
Matches (AnyBytes ∷ parts) text = (front : List ℕ) × (rest : List ℕ) × (text ≡ front ++ rest) × Matches parts rest
Matches (OneByte class ∷ parts) text = (first : ℕ) × (rest : List ℕ) × (text ≡ first ∷ rest) × IsTrue (is_in_class class first) × Matches parts rest
