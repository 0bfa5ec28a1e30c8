-- How a line is cut into words and redirections, byte by byte. The grammar that this reads is in Grammar.
use Rattle.std.specs.Prelude.{ℕ, Bool, ◌||◌, ◌==◌, if◌then◌else◌, List, [], ◌∷◌, ◌++◌, Option, Some, None, true, false}
use Rattle.std.specs.Option.{option_map}
use Rattle.trace_lex.specs.Blanks.{is_blank}
use Rattle.trace_script.specs.declared.token.Token.{Token}
use Rattle.trace_script.specs.declared.token.Token.TheVariants.{Word, Redirect}

-- where the reading of a line is: between words, after a `>` that may be the first of two, in a word, or in a part of it within these quotes
pub data LexState : Type 0 where
  Between : LexState
  Arrow : LexState
  InWord : LexState
  InQuotes : (quote : ℕ) → LexState

-- a quote of either kind
abbrev pub is_quote : ℕ → Bool
is_quote b = b == 39 || b == 34

-- a byte at which a word ends: a blank or `>`
abbrev pub is_end : ℕ → Bool
is_end b = is_blank b || b == 62

-- where a byte that stands outside quotes leads
abbrev pub state_of : ℕ → LexState
state_of b = if is_blank b then Between else (if b == 62 then Arrow else (if is_quote b then InQuotes b else InWord))

-- what a byte that stands outside quotes adds to its word
abbrev pub plain : ℕ → List ℕ
plain b = if is_end b || is_quote b then [] else b ∷ []

-- these tokens, and then those of the rest
abbrev pub behind : List Token → Option (List Token) → Option (List Token)
behind tokens rest = option_map (λ more. tokens ++ more) rest

-- the tokens of the rest of a line in each state, where the word that is open has this text so far (between words, none); none where a
-- quote is not closed
abbrev pub tokens_from : LexState → List ℕ → List ℕ → Option (List Token)
tokens_from Between word [] = Some []
tokens_from Arrow word [] = Some (Redirect false ∷ [])
tokens_from InWord word [] = Some (Word word ∷ [])
tokens_from (InQuotes quote) word [] = None
tokens_from Between word (b ∷ bs) = tokens_from (state_of b) (word ++ plain b) bs
tokens_from Arrow word (b ∷ bs) =
    if b == 62 then behind (Redirect true ∷ []) (tokens_from Between word bs)
    else behind (Redirect false ∷ []) (tokens_from (state_of b) (word ++ plain b) bs)
tokens_from InWord word (b ∷ bs) =
    if is_end b then behind (Word word ∷ []) (tokens_from (state_of b) [] bs)
    else tokens_from (state_of b) (word ++ plain b) bs
tokens_from (InQuotes quote) word (b ∷ bs) =
    if b == quote then tokens_from InWord word bs else tokens_from (InQuotes quote) (word ++ b ∷ []) bs

-- the tokens of a line; none where a quote is not closed
unfoldable pub tokens_of : List ℕ → Option (List Token)
tokens_of line = tokens_from Between [] line
