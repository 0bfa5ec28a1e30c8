-- What a text is written of, and which words with which offsets these parts stand for. `spots_of` finds exactly these.
use Rattle.std.specs.Prelude.{◌≡◌, ℕ, ◌<◌, IsTrue, List, [], ◌∷◌, ◌++◌, length, flat_map}
use Rattle.std.specs.List.{AllPass}
use Rattle.trace_lex.specs.Blanks.{is_blank}
use Rattle.trace_format.specs.Words.{Spot, is_word_byte, semicolon}

-- a part of a text: a blank, a `;`, or a word
pub data TextPart : Type 0 where
  Blank : (byte : ℕ) → TextPart
  Semicolon : TextPart
  Word : (bytes : List ℕ) → TextPart

-- a word has a byte, and all its bytes are no blank and no `;`
abbrev pub IsTextPart : TextPart → Type 0
IsTextPart (Blank byte) = IsTrue (is_blank byte)
IsTextPart Semicolon = Unit {0}
IsTextPart (Word bytes) = (0 < length bytes) × AllPass is_word_byte bytes

-- what may stand before these parts: between two words stands something
abbrev pub MayPrecede : TextPart → List TextPart → Type 0
MayPrecede (Word bytes) (Word next ∷ parts) = ⊥
MayPrecede _ _ = Unit {0}

-- the parts of a text, in order
abbrev pub AreParts : List TextPart → Type 0
AreParts [] = Unit {0}
AreParts (part ∷ parts) = IsTextPart part × MayPrecede part parts × AreParts parts

-- how a part is written
abbrev pub part_text : TextPart → List ℕ
part_text (Blank byte) = byte ∷ []
part_text Semicolon = semicolon
part_text (Word bytes) = bytes

-- what a part stands for behind the text before it: a blank for nothing, the others for themselves, at the length of that text
abbrev pub part_spots : List ℕ → TextPart → List Spot
part_spots before (Blank byte) = []
part_spots before Semicolon = record { at = length before; word = semicolon } ∷ []
part_spots before (Word bytes) = record { at = length before; word = bytes } ∷ []

-- what parts stand for behind the text before them
abbrev pub parts_spots : List ℕ → List TextPart → List Spot
parts_spots before [] = []
parts_spots before (part ∷ parts) = part_spots before part ++ parts_spots (before ++ part_text part) parts

-- a text can be written of parts that stand for these words at these offsets
pub record IsWritten (text : List ℕ) (spots : List Spot) : Type 0 where
  pub parts : List TextPart
  pub lawful : AreParts parts
  pub written : flat_map part_text parts ≡ text
  pub meaning : parts_spots [] parts ≡ spots
