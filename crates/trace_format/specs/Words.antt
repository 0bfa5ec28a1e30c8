-- The words of a declaration: the longest runs of bytes that are no blank and no `;`, and each `;` by itself.
-- What a text is written of, with no scanner, is in WordParts.
use Rattle.std.specs.Prelude.{◌≡◌, ◌<◌, ◌≤◌, drop, ℕ, zero, suc, ◌+◌, Bool, not, ◌||◌, ◌==◌, if◌then◌else◌, List, [], ◌∷◌, length, map, take}
use Rattle.std.specs.List.{prefix_len}
use Rattle.trace_lex.specs.Blanks.{is_blank}

-- no blank and no `;`
abbrev pub is_word_byte : ℕ → Bool
is_word_byte b = not (is_blank b || b == 59)

abbrev pub semicolon : List ℕ
semicolon = 59 ∷ []

-- how many of the bytes bs belong to the word or `;` that begins with the byte b before them
abbrev pub more_of : ℕ → List ℕ → ℕ
more_of b bs = if b == 59 then 0 else prefix_len is_word_byte bs

-- a word or `;` with the offset of its first byte in the text
pub record Spot : Type 0 where
  pub at : ℕ
  pub word : List ℕ

-- the words from an offset on, where `skip` more bytes belong to the word before
abbrev pub spots_from : ℕ → ℕ → List ℕ → List Spot
spots_from skip at [] = []
spots_from (suc skip) at (b ∷ bs) = spots_from skip (at + 1) bs
spots_from zero at (b ∷ bs) = if is_blank b then spots_from 0 (at + 1) bs else (record { at = at; word = b ∷ take (more_of b bs) bs } ∷ spots_from (more_of b bs) (at + 1) bs)

-- the words of a text with their offsets
abbrev pub spots_of : List ℕ → List Spot
spots_of text = spots_from 0 0 text

abbrev pub words_of : List Spot → List (List ℕ)
words_of spots = map (λ spot. spot.word) spots

-- the first word from an offset on, with the others from its end on
pub record IsNextWord (text : List ℕ) (start at : ℕ) (word : List ℕ) : Type 0 where
  pub spots : spots_from 0 start (drop start text) ≡ record { at = at; word = word } ∷ spots_from 0 (at + length word) (drop (at + length word) text)
  pub within : at + length word ≤ length text
  pub forward : start < at + length word
