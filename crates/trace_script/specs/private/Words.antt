-- Words for the private contracts that cut a line into tokens.
use Rattle.std.specs.Prelude.{◌≡◌, ℕ, Bool, false, ◌||◌, ◌&&◌, ◌==◌, not, if◌then◌else◌, List, [], ◌∷◌, Option, None, Some, codes}
use Rattle.std.specs.Str.{bytes_eq}
use Rattle.trace_lex.specs.Blanks.{is_blank}
use Rattle.trace_script.specs.Tokens.{LexState, InWord, InQuotes, is_end, is_quote, behind, tokens_from, tokens_of}
use Rattle.trace_script.specs.declared.fault.LineError.{LineError}
use Rattle.trace_script.specs.declared.fault.LineError.TheVariants.{Fault, Memory}
use Rattle.trace_script.specs.declared.fault.ScriptFault.TheVariants.{UnclosedQuote}
use Rattle.trace_script.specs.declared.line.Line.{Line}
use Rattle.trace_script.specs.declared.line.Line.TheVariants.{Parallel, Thread, End}
use Rattle.trace_script.specs.declared.token.Token.{Token}
use Rattle.trace_script.specs.declared.token.Token.TheVariants.{Word}

-- a byte that a word has as it is
abbrev pub is_plain : ℕ → Bool
is_plain b = not (is_end b || is_quote b)

-- a string that begins with a quote
abbrev pub begins_with_quote : List ℕ → Bool
begins_with_quote [] = false
begins_with_quote (b ∷ bs) = is_quote b

-- a string that begins with a `>`
abbrev pub begins_with_arrow : List ℕ → Bool
begins_with_arrow [] = false
begins_with_arrow (b ∷ bs) = b == 62

-- a string that begins with the first two bytes of `end`, or with a quote in the place of one of them
abbrev pub begins_as_end : List ℕ → Bool
begins_as_end [] = false
begins_as_end (b ∷ []) = false
begins_as_end (b ∷ c ∷ bs) = is_quote b || (b == 101 && (is_quote c || c == 110))

-- a string that begins with a byte of a token
abbrev pub BeginsToken : List ℕ → Type 0
BeginsToken [] = ⊥
BeginsToken (b ∷ bs) = is_blank b ≡ false

-- a string that begins with a byte of a word
abbrev pub BeginsWord : List ℕ → Type 0
BeginsWord [] = ⊥
BeginsWord (b ∷ bs) = is_end b ≡ false

-- the state in a word: outside quotes, or within these
abbrev pub state_in : Option ℕ → LexState
state_in None = InWord
state_in (Some quote) = InQuotes quote

-- what is left of a word, and then of a line, are this word and what follows it
abbrev pub IsWordAnd : List ℕ → List ℕ → List ℕ → Type 0
IsWordAnd line word rest = tokens_from InWord [] line ≡ behind (Word word ∷ []) (tokens_of rest)

-- there are no tokens, for a quote that is not closed; or memory was refused
abbrev pub IsUnclosed : LineError → Option (List Token) → Type 0
IsUnclosed Memory tokens = Unit {0}
IsUnclosed (Fault fault) tokens = (fault ≡ UnclosedQuote) × (tokens ≡ None)

-- the name of a line of a parallel part
abbrev pub is_block_word : List ℕ → Bool
is_block_word name = bytes_eq name (codes "parallel") || (bytes_eq name (codes "thread") || bytes_eq name (codes "end"))

-- the line of a parallel part that has this name
abbrev pub block_line : List ℕ → Line
block_line name = if bytes_eq name (codes "parallel") then Parallel else (if bytes_eq name (codes "thread") then Thread else End)
