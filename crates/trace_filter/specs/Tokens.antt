-- The tokens of a filter: a function of its text alone.
use Rattle.std.specs.Prelude.{ℕ, zero, suc, ◌+◌, Bool, true, false, not, ◌||◌, ◌==◌, nat_lt, if◌then◌else◌, List, [], ◌∷◌, length, map, take}
use Rattle.std.specs.List.{prefix_len}
use Rattle.trace_lex.specs.Blanks.{is_blank, without_end}
use Rattle.trace_lex.specs.Names.{is_name, is_name_byte}
use Rattle.trace_lex.specs.Prefixes.{is_not}
use Rattle.trace_filter.specs.declared.token.Comparison.{Comparison}
use Rattle.trace_filter.specs.declared.token.Comparison.TheVariants as comparison

-- a value as written: a bare word, or the bytes between two quotes
pub data Literal : Type 0 where
  Word : List ℕ → Literal
  Quoted : List ℕ → Literal

-- `(`, `)`, `!`, `&&`, `||`, a comparison, a name, a value; Illegible is what no grammar takes
pub data Token : Type 0 where
  Open : Token
  Close : Token
  Bang : Token
  AndAnd : Token
  OrOr : Token
  Compare : Comparison → Token
  Name : List ℕ → Token
  Value : Literal → Token
  Illegible : Token

-- `"` or `'`
abbrev pub is_quote : ℕ → Bool
is_quote b = b == 34 || b == 39

-- no blank, none of `(` `)` `&` `|`, no quote
abbrev pub is_word_byte : ℕ → Bool
is_word_byte b = not (is_blank b || (((b == 40 || b == 41) || (b == 38 || b == 124)) || is_quote b))

-- whether the bytes begin with the byte
abbrev pub begins_with : ℕ → List ℕ → Bool
begins_with b [] = false
begins_with b (c ∷ cs) = c == b

-- a token, and how many bytes behind its first it takes
pub record ReadToken : Type 0 where
  pub token : Token
  pub more : ℕ

-- what begins with a quote: the bytes up to the next one like it, if there is one
abbrev pub quoted_piece : ℕ → List ℕ → ReadToken
quoted_piece quote bs = if nat_lt (prefix_len (is_not quote) bs) (length bs) then record { token = Value (Quoted (take (prefix_len (is_not quote) bs) bs)); more = prefix_len (is_not quote) bs + 1 } else record { token = Illegible; more = 0 }

-- a bare word: the longest run of its bytes
abbrev pub word_piece : ℕ → List ℕ → ReadToken
word_piece b bs = record { token = Value (Word (b ∷ take (prefix_len is_word_byte bs) bs)); more = prefix_len is_word_byte bs }

-- as many bytes of a name as stand together: a name, if they make one
abbrev pub name_piece : ℕ → List ℕ → ReadToken
name_piece b bs = record { token = if is_name (b ∷ take (prefix_len is_name_byte bs) bs) then Name (b ∷ take (prefix_len is_name_byte bs) bs) else Illegible; more = prefix_len is_name_byte bs }

-- one of two tokens: the longer, where the byte follows
abbrev pub longest : ℕ → List ℕ → Token → Token → ReadToken
longest b bs long short = if begins_with b bs then record { token = long; more = 1 } else record { token = short; more = 0 }

-- parentheses and operators, read longest first: `!` or `!=` (33), `&` or `&&` (38), `<` (60), `=` (61), `>` (62), `||` (124), `~` (126)
abbrev pub symbol_piece : ℕ → List ℕ → ReadToken
symbol_piece b bs = if b == 40 then record { token = Open; more = 0 }
    else if b == 41 then record { token = Close; more = 0 }
    else if b == 33 then longest 61 bs (Compare comparison.Ne) Bang
    else if b == 38 then longest 38 bs AndAnd (Compare comparison.BitAnd)
    else if b == 60 then longest 61 bs (Compare comparison.Le) (Compare comparison.Lt)
    else if b == 61 then longest 61 bs (Compare comparison.Eq) Illegible
    else if b == 62 then longest 61 bs (Compare comparison.Ge) (Compare comparison.Gt)
    else if b == 124 then longest 124 bs OrOr Illegible
    else if b == 126 then record { token = Compare comparison.Glob; more = 0 }
    else record { token = Illegible; more = 0 }

-- the token that begins with the byte b before bs; a value is read only where one is due
unfoldable pub piece_of : Bool → ℕ → List ℕ → ReadToken
piece_of true b bs = if is_quote b then quoted_piece b bs else if is_word_byte b then word_piece b bs else symbol_piece b bs
piece_of false b bs = if is_name_byte b then name_piece b bs else symbol_piece b bs

-- a value is due behind a comparison, and nowhere else
abbrev pub is_comparison : Token → Bool
is_comparison Open = false
is_comparison Close = false
is_comparison Bang = false
is_comparison AndAnd = false
is_comparison OrOr = false
is_comparison (Compare c) = true
is_comparison (Name bs) = false
is_comparison (Value v) = false
is_comparison Illegible = false

-- a token with the offset of its first byte in the text
pub record Spot : Type 0 where
  pub at : ℕ
  pub token : Token

-- the tokens from an offset on, where `skip` more bytes belong to the token before
abbrev pub spots_from : Bool → ℕ → ℕ → List ℕ → List Spot
spots_from value_due skip at [] = []
spots_from value_due (suc skip) at (b ∷ bs) = spots_from value_due skip (at + 1) bs
spots_from value_due zero at (b ∷ bs) = if is_blank b then spots_from value_due 0 (at + 1) bs
    else (record { at = at; token = (piece_of value_due b bs).token } ∷ spots_from (is_comparison (piece_of value_due b bs).token) (piece_of value_due b bs).more (at + 1) bs)

-- a token so many bytes later
abbrev pub shifted_by : ℕ → Spot → Spot
shifted_by more spot = record { at = more + spot.at; token = spot.token }

abbrev pub tokens_of : List Spot → List Token
tokens_of spots = map (λ spot. spot.token) spots

-- the tokens of a text with their offsets; blanks at its end are cut
abbrev pub spots_of : List ℕ → List Spot
spots_of text = spots_from false 0 0 (without_end text)
