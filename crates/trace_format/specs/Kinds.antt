-- The types of fields: how each is spelled, how many bytes it takes, and which numbers it holds.
use Rattle.std.specs.Prelude.{ℕ, ℤ, pos, neg_ℤ, ◌*◌, ◌-◌, ◌^◌, Bool, true, false, if◌then◌else◌, codes, bytes_eq, Option, None, Some, List, [], ◌∷◌}
use Rattle.std.specs.List.{join_with_byte}
use Rattle.trace_format.specs.declared.kind.NumberType.{NumberType}
use Rattle.trace_format.specs.declared.kind.NumberType.TheVariants.{U8, U16, U32, U64, S8, S16, S32, S64, Int, PidT, UnsignedInt, Long, UnsignedLong}
use Rattle.trace_format.specs.declared.kind.Kind.{Kind}
use Rattle.trace_format.specs.declared.kind.Kind.TheVariants.{Number, Char}

-- the words that spell a number's type
abbrev pub type_words : NumberType → List (List ℕ)
type_words U8 = codes "u8" ∷ []
type_words U16 = codes "u16" ∷ []
type_words U32 = codes "u32" ∷ []
type_words U64 = codes "u64" ∷ []
type_words S8 = codes "s8" ∷ []
type_words S16 = codes "s16" ∷ []
type_words S32 = codes "s32" ∷ []
type_words S64 = codes "s64" ∷ []
type_words Int = codes "int" ∷ []
type_words PidT = codes "pid_t" ∷ []
type_words UnsignedInt = codes "unsigned" ∷ codes "int" ∷ []
type_words Long = codes "long" ∷ []
type_words UnsignedLong = codes "unsigned" ∷ codes "long" ∷ []

-- the words that spell a field's type
abbrev pub kind_words : Kind → List (List ℕ)
kind_words (Number t) = type_words t
kind_words (Char n) = codes "char" ∷ []

-- and the same in one text, with a blank between two words
abbrev pub type_name_of : Kind → List ℕ
type_name_of kind = join_with_byte 32 (kind_words kind)

-- how many bytes it takes
abbrev pub number_size : NumberType → ℕ
number_size U8 = 1
number_size U16 = 2
number_size U32 = 4
number_size U64 = 8
number_size S8 = 1
number_size S16 = 2
number_size S32 = 4
number_size S64 = 8
number_size Int = 4
number_size PidT = 4
number_size UnsignedInt = 4
number_size Long = 8
number_size UnsignedLong = 8

-- whether it holds numbers below 0
abbrev pub is_signed : NumberType → Bool
is_signed U8 = false
is_signed U16 = false
is_signed U32 = false
is_signed U64 = false
is_signed S8 = true
is_signed S16 = true
is_signed S32 = true
is_signed S64 = true
is_signed Int = true
is_signed PidT = true
is_signed UnsignedInt = false
is_signed Long = true
is_signed UnsignedLong = false

-- the least and the greatest number that it holds
abbrev pub least : NumberType → ℤ
least t = if is_signed t then neg_ℤ (pos (2 ^ (8 * number_size t - 1))) else pos 0

abbrev pub greatest : NumberType → ℤ
greatest t = if is_signed t then pos (2 ^ (8 * number_size t - 1) - 1) else pos (2 ^ (8 * number_size t) - 1)

-- how many bytes a field of the type takes in a payload
abbrev pub size_of : Kind → ℕ
size_of (Number t) = number_size t
size_of (Char n) = n

-- whether a field of the type holds numbers below 0
abbrev pub is_signed_kind : Kind → Bool
is_signed_kind (Number t) = is_signed t
is_signed_kind (Char n) = false

-- whether a field of the type has texts
abbrev pub is_text_kind : Kind → Bool
is_text_kind (Number t) = false
is_text_kind (Char n) = true

-- the number type that one word spells
abbrev pub type_of : List ℕ → Option NumberType
type_of word = if bytes_eq word (codes "u8") then Some U8
    else if bytes_eq word (codes "u16") then Some U16
    else if bytes_eq word (codes "u32") then Some U32
    else if bytes_eq word (codes "u64") then Some U64
    else if bytes_eq word (codes "s8") then Some S8
    else if bytes_eq word (codes "s16") then Some S16
    else if bytes_eq word (codes "s32") then Some S32
    else if bytes_eq word (codes "s64") then Some S64
    else if bytes_eq word (codes "int") then Some Int
    else if bytes_eq word (codes "pid_t") then Some PidT
    else if bytes_eq word (codes "long") then Some Long
    else None

-- and behind `unsigned`
abbrev pub unsigned_type_of : List ℕ → Option NumberType
unsigned_type_of word = if bytes_eq word (codes "int") then Some UnsignedInt
    else if bytes_eq word (codes "long") then Some UnsignedLong
    else None
