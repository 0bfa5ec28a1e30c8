-- Messages as parts that follow one another. A list of parts is a struct of linux/fuse.h, field by field.
use Rattle.std.specs.Prelude.{◌≡◌, ℕ, ◌<◌, ◌^◌, ◌==◌, false, List, [], ◌∷◌, ◌++◌, length, replicate}
use Rattle.std.specs.Int.{Width, w16, w32, w64, to_le_bytes}
use Rattle.std.specs.List.{list_any}

pub data Part : Type 0 where
  -- a number of two, four or eight bytes
  U16 : (number : ℕ) → Part
  U32 : (number : ℕ) → Part
  U64 : (number : ℕ) → Part
  -- so many bytes of fields that a server has no use for, whatever they are
  Ignored : (count : ℕ) → Part
  -- a name, and a zero byte
  Name : (name : List ℕ) → Part
  -- these bytes
  Bytes : (bytes : List ℕ) → Part
  -- any number of bytes, whatever they are
  Anything : Part

-- the bytes of a number, the low one first
unfoldable pub number_bytes : Width → ℕ → List ℕ
number_bytes width number = to_le_bytes width number

-- a name has a byte, and no zero byte
pub record IsName (name : List ℕ) : Type 0 where
  pub some : 0 < length name
  pub no_zero : list_any (λ byte. byte == 0) name ≡ false

-- these bytes are this part
abbrev pub IsPart : Part → List ℕ → Type 0
IsPart (U16 number) bytes = (number < 2 ^ 16) × (bytes ≡ number_bytes w16 number)
IsPart (U32 number) bytes = (number < 2 ^ 32) × (bytes ≡ number_bytes w32 number)
IsPart (U64 number) bytes = (number < 2 ^ 64) × (bytes ≡ number_bytes w64 number)
IsPart (Ignored count) bytes = length bytes ≡ count
IsPart (Name name) bytes = IsName name × (bytes ≡ name ++ 0 ∷ [])
IsPart (Bytes own) bytes = bytes ≡ own
IsPart Anything bytes = Unit {0}

-- these bytes are these parts, one after another, and nothing else
pub data Are : List Part → List ℕ → Type 0 where
  nothing : Are [] []
  followed : {part : Part} {parts : List Part} (first rest : List ℕ) → IsPart part first → Are parts rest → Are (part ∷ parts) (first ++ rest)

-- the bytes that a server writes for a part: zeros for what is ignored
abbrev pub part_bytes : Part → List ℕ
part_bytes (U16 number) = number_bytes w16 number
part_bytes (U32 number) = number_bytes w32 number
part_bytes (U64 number) = number_bytes w64 number
part_bytes (Ignored count) = replicate count 0
part_bytes (Name name) = name ++ 0 ∷ []
part_bytes (Bytes own) = own
part_bytes Anything = []

-- and for parts, one after another
abbrev pub bytes_of : List Part → List ℕ
bytes_of [] = []
bytes_of (part ∷ parts) = part_bytes part ++ bytes_of parts
