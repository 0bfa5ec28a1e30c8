-- Where the tokens of a line are that were not taken yet.
use Rattle.std.specs.Prelude.{◌≡◌, ◌≢◌, ℕ, false, List, []}
use Rattle.std.specs.List.{list_any}
use Rattle.trace_script.specs.Tokens.{is_quote}
use Rattle.trace_script.specs.private.Listed.{listed, AreWordsOf}
use Rattle.trace_script.specs.private.TokensLeft.{tokens_left}
use Rattle.trace_script.specs.private.Words.{BeginsToken}
use Rattle.trace_script.specs.declared.token.Token.{Token}
use Rattle.trace_script.specs.declared.tokens.Left.{Left}
use Rattle.trace_script.specs.declared.tokens.Left.TheVariants.{Unread, Listed}

abbrev pub tokens_in : Left → List Token
tokens_in (Unread rest) = tokens_left rest.now
tokens_in (Listed words tokens) = listed words.now tokens.now

-- What is left of a line without quotes: no blank stands before it.
pub record IsPlain (rest : List ℕ) : Type 0 where
  pub unquoted : list_any is_quote rest ≡ false
  pub begins : rest ≢ [] → BeginsToken rest

-- what is unread of a line has no quotes; in a list each byte is of a word
abbrev pub IsReadable : Left → Type 0
IsReadable (Unread rest) = IsPlain rest.now
IsReadable (Listed words tokens) = AreWordsOf words.now tokens.now
