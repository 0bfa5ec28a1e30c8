-- The grammar of a line: what it is written of, and which words and redirections these parts stand for.
use Rattle.std.specs.Prelude.{◌≡◌, ◌≢◌, ℕ, Bool, true, false, List, [], ◌∷◌, ◌++◌}
use Rattle.std.specs.List.{flat_map, AllByRecursion}
use Rattle.trace_lex.specs.Blanks.{is_blank}
use Rattle.trace_script.specs.Tokens.{is_quote, is_end}
use Rattle.trace_script.specs.declared.token.Token.{Token}
use Rattle.trace_script.specs.declared.token.Token.TheVariants.{Word, Redirect}

-- a piece of a word: a byte that stands for itself, or bytes within two quotes
pub data WordPiece : Type 0 where
  Plain : (byte : ℕ) → WordPiece
  Quoted : (quote : ℕ) (inside : List ℕ) → WordPiece

-- a byte that stands for itself is no blank, no `>` and no quote; bytes in quotes are any but the quote
abbrev pub IsWordPiece : WordPiece → Type 0
IsWordPiece (Plain byte) = (is_end byte ≡ false) × (is_quote byte ≡ false)
IsWordPiece (Quoted quote inside) = (is_quote quote ≡ true) × AllByRecursion (λ b. b ≢ quote) inside

-- how a piece is written
abbrev pub piece_text : WordPiece → List ℕ
piece_text (Plain byte) = byte ∷ []
piece_text (Quoted quote inside) = quote ∷ inside ++ quote ∷ []

-- what a piece gives its word
abbrev pub piece_value : WordPiece → List ℕ
piece_value (Plain byte) = byte ∷ []
piece_value (Quoted quote inside) = inside

-- a part of a line: a blank, a redirection, or a word of one piece or more
pub data LinePart : Type 0 where
  Gap : (blank : ℕ) → LinePart
  Redirection : (append : Bool) → LinePart
  Written : (first : WordPiece) (more : List WordPiece) → LinePart

abbrev pub IsLinePart : LinePart → Type 0
IsLinePart (Gap blank) = is_blank blank ≡ true
IsLinePart (Redirection append) = Unit {0}
IsLinePart (Written first more) = IsWordPiece first × AllByRecursion IsWordPiece more

-- how a part is written
abbrev pub part_text : LinePart → List ℕ
part_text (Gap blank) = blank ∷ []
part_text (Redirection false) = 62 ∷ []
part_text (Redirection true) = 62 ∷ 62 ∷ []
part_text (Written first more) = flat_map piece_text (first ∷ more)

-- what a part stands for
abbrev pub part_tokens : LinePart → List Token
part_tokens (Gap blank) = []
part_tokens (Redirection append) = Redirect append ∷ []
part_tokens (Written first more) = Word (flat_map piece_value (first ∷ more)) ∷ []

-- what may stand before these parts: between two words stands something, and a `>` before a redirection would be read as `>>`
abbrev pub MayPrecede : LinePart → List LinePart → Type 0
MayPrecede (Written first more) (Written next others ∷ parts) = ⊥
MayPrecede (Redirection false) (Redirection append ∷ parts) = ⊥
MayPrecede _ _ = Unit {0}

-- the parts of a line, in order
abbrev pub IsLine : List LinePart → Type 0
IsLine [] = Unit {0}
IsLine (part ∷ parts) = IsLinePart part × MayPrecede part parts × IsLine parts

-- a line can be written of parts that stand for these tokens
pub record IsWritten (line : List ℕ) (tokens : List Token) : Type 0 where
  pub parts : List LinePart
  pub lawful : IsLine parts
  pub text : flat_map part_text parts ≡ line
  pub meaning : flat_map part_tokens parts ≡ tokens
