-- The grammar of tokens: what a text is written of, and which tokens that means.
use Rattle.std.specs.Prelude.{◌≡◌, ◌≢◌, ℕ, ◌+◌, Bool, true, false, if◌then◌else◌, List, [], ◌∷◌, ◌++◌, length, map}
use Rattle.std.specs.List.{flat_map, AllByRecursion}
use Rattle.trace_lex.specs.Names.{is_name, is_name_byte}
use Rattle.trace_filter.specs.declared.token.Comparison.{Comparison}
use Rattle.trace_filter.specs.declared.token.Comparison.TheVariants as comparison
use Rattle.trace_lex.specs.Blanks.{is_blank}
use Rattle.trace_filter.specs.Tokens.{Word, Quoted, Token, Open, Close, Bang, AndAnd, OrOr, Compare, Name, Value, Illegible, is_quote, is_word_byte, begins_with, is_comparison, Spot}

-- a token that is always written alike
pub data Sign : Type 0 where
  Opening : Sign
  Closing : Sign
  Negation : Sign
  Conjunction : Sign
  Disjunction : Sign
  Comparing : (comparison : Comparison) → Sign

-- `==`, `!=`, `<=`, `>=`, `<`, `>`, `&`, `~`
abbrev pub comparison_text : Comparison → List ℕ
comparison_text comparison.Eq = 61 ∷ 61 ∷ []
comparison_text comparison.Ne = 33 ∷ 61 ∷ []
comparison_text comparison.Le = 60 ∷ 61 ∷ []
comparison_text comparison.Ge = 62 ∷ 61 ∷ []
comparison_text comparison.Lt = 60 ∷ []
comparison_text comparison.Gt = 62 ∷ []
comparison_text comparison.BitAnd = 38 ∷ []
comparison_text comparison.Glob = 126 ∷ []

-- `(`, `)`, `!`, `&&`, `||`, or a comparison
abbrev pub sign_text : Sign → List ℕ
sign_text Opening = 40 ∷ []
sign_text Closing = 41 ∷ []
sign_text Negation = 33 ∷ []
sign_text Conjunction = 38 ∷ 38 ∷ []
sign_text Disjunction = 124 ∷ 124 ∷ []
sign_text (Comparing comparison) = comparison_text comparison

abbrev pub sign_token : Sign → Token
sign_token Opening = Open
sign_token Closing = Close
sign_token Negation = Bang
sign_token Conjunction = AndAnd
sign_token Disjunction = OrOr
sign_token (Comparing comparison) = Compare comparison

-- signs are read longest first: `!`, `<` and `>` don't stand before a `=` (61), nor `&` before a `&` (38)
abbrev pub IsLongest : Sign → List ℕ → Type 0
IsLongest Negation bytes = begins_with 61 bytes ≡ false
IsLongest (Comparing comparison.Lt) bytes = begins_with 61 bytes ≡ false
IsLongest (Comparing comparison.Gt) bytes = begins_with 61 bytes ≡ false
IsLongest (Comparing comparison.BitAnd) bytes = begins_with 38 bytes ≡ false
IsLongest _ bytes = Unit {0}

-- whether there is a first byte, of a kind
abbrev pub first_is : (ℕ → Bool) → List ℕ → Bool
first_is kind [] = false
first_is kind (b ∷ bs) = kind b

-- bytes of a kind, before bytes that begin with none
abbrev pub IsRun : (ℕ → Bool) → List ℕ → List ℕ → Type 0
IsRun kind run bytes = AllByRecursion (λ b. kind b ≡ true) run × (first_is kind bytes ≡ false)

-- a lexeme: a blank, a sign, a run of letters, digits and `_`, a bare word, or bytes between two quotes
pub data Lexeme : Type 0 where
  Gap : (blank : ℕ) → Lexeme
  Signed : (sign : Sign) → Lexeme
  Run : (first : ℕ) (more : List ℕ) → Lexeme
  Bare : (first : ℕ) (more : List ℕ) → Lexeme
  Within : (quote : ℕ) (inside : List ℕ) → Lexeme

-- how it is written
abbrev pub lexeme_text : Lexeme → List ℕ
lexeme_text (Gap blank) = blank ∷ []
lexeme_text (Signed sign) = sign_text sign
lexeme_text (Run first more) = first ∷ more
lexeme_text (Bare first more) = first ∷ more
lexeme_text (Within quote inside) = quote ∷ inside ++ quote ∷ []

-- what it means: a run that is no name is illegible
abbrev pub lexeme_tokens : Lexeme → List Token
lexeme_tokens (Gap blank) = []
lexeme_tokens (Signed sign) = sign_token sign ∷ []
lexeme_tokens (Run first more) = (if is_name (first ∷ more) then Name (first ∷ more) else Illegible) ∷ []
lexeme_tokens (Bare first more) = Value (Word (first ∷ more)) ∷ []
lexeme_tokens (Within quote inside) = Value (Quoted inside) ∷ []

-- what may stand before these bytes where a value is due: a blank, a value, or a sign that begins as no word does; and where none is: a
-- blank, a sign or a run
abbrev pub IsLexemeBefore : Bool → List ℕ → Lexeme → Type 0
IsLexemeBefore due bytes (Gap blank) = is_blank blank ≡ true
IsLexemeBefore true bytes (Signed sign) = (first_is is_word_byte (sign_text sign) ≡ false) × IsLongest sign bytes
IsLexemeBefore false bytes (Signed sign) = IsLongest sign bytes
IsLexemeBefore true bytes (Run first more) = ⊥
IsLexemeBefore false bytes (Run first more) = IsRun is_name_byte (first ∷ more) bytes
IsLexemeBefore true bytes (Bare first more) = IsRun is_word_byte (first ∷ more) bytes
IsLexemeBefore false bytes (Bare first more) = ⊥
IsLexemeBefore true bytes (Within quote inside) = (is_quote quote ≡ true) × AllByRecursion (λ b. b ≢ quote) inside
IsLexemeBefore false bytes (Within quote inside) = ⊥

-- a lexeme stands at the beginning of these bytes
pub record BeginsLexeme (due : Bool) (bytes : List ℕ) : Type 0 where
  pub lexeme : Lexeme
  pub rest : List ℕ
  pub lawful : IsLexemeBefore due rest lexeme
  pub text : lexeme_text lexeme ++ rest ≡ bytes

-- a part of a text: a lexeme, or a byte where none begins
pub data TextPart : Type 0 where
  Legible : (lexeme : Lexeme) → TextPart
  Stray : (byte : ℕ) → TextPart

abbrev pub IsTextPart : Bool → List ℕ → TextPart → Type 0
IsTextPart due bytes (Legible lexeme) = IsLexemeBefore due bytes lexeme
IsTextPart due bytes (Stray byte) = BeginsLexeme due (byte ∷ bytes) → ⊥

-- how a part is written
abbrev pub part_text : TextPart → List ℕ
part_text (Legible lexeme) = lexeme_text lexeme
part_text (Stray byte) = byte ∷ []

-- what a part means
abbrev pub part_tokens : TextPart → List Token
part_tokens (Legible lexeme) = lexeme_tokens lexeme
part_tokens (Stray byte) = Illegible ∷ []

-- a value is due behind a comparison, and behind blanks where it was before them
abbrev pub due_behind : Bool → List Token → Bool
due_behind due [] = due
due_behind due (token ∷ tokens) = is_comparison token

-- the parts of a text, in order
abbrev pub IsText : Bool → List TextPart → Type 0
IsText due [] = Unit {0}
IsText due (part ∷ parts) = IsTextPart due (flat_map part_text parts) part × IsText (due_behind due (part_tokens part)) parts

-- their tokens from an offset on, each behind the text of all parts before it
abbrev pub part_spots : ℕ → List TextPart → List Spot
part_spots at [] = []
part_spots at (part ∷ parts) = map (λ token. record { at = at; token = token }) (part_tokens part) ++ part_spots (at + length (part_text part)) parts

-- a text can be written of parts that mean these tokens at these offsets
pub record IsWrittenText (text : List ℕ) (spots : List Spot) : Type 0 where
  pub parts : List TextPart
  pub lawful : IsText false parts
  pub written : flat_map part_text parts ≡ text
  pub meaning : part_spots 0 parts ≡ spots
