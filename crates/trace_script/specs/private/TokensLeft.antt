-- Words for the private contracts that take tokens from the front of a line.
use Rattle.std.specs.Prelude.{◌≡◌, ℕ, ◌<◌, Bool, true, false, List, [], ◌∷◌, length, Option, Result, unwrap_or}
use Rattle.std.specs.Option.{option_map}
use Rattle.trace_format.specs.declared.pair.Pair.{Pair}
use Rattle.trace_script.specs.Lines.{pairs_of, asked_of}
use Rattle.trace_script.specs.Outcomes.{or_fault, ◌>>=◌}
use Rattle.trace_script.specs.declared.fault.ScriptFault.{ScriptFault}
use Rattle.trace_script.specs.declared.fault.ScriptFault.TheVariants.{UnclosedQuote}
use Rattle.trace_script.specs.declared.line.Line.{Line}
use Rattle.trace_script.specs.Tokens.{tokens_of}
use Rattle.trace_script.specs.declared.token.Token.{Token}
use Rattle.trace_script.specs.declared.token.Token.TheVariants as token

-- the tokens of what is left of a line
abbrev pub tokens_left : List ℕ → List Token
tokens_left rest = unwrap_or (tokens_of rest) []

-- whether tokens begin with a word
abbrev pub begins_with_word : List Token → Bool
begins_with_word [] = false
begins_with_word (token.Word word ∷ tokens) = true
begins_with_word (token.Redirect append ∷ tokens) = false

-- what a line asks for that is cut into these tokens, or has a quote that is not closed
abbrev pub asked_after : Option (List Token) → Result Line ScriptFault
asked_after cut = or_fault UnclosedQuote cut >>= λ tokens. asked_of tokens

-- What it is to take a pair from the front of tokens: they write this pair, and then what the others write.
pub record IsPairAnd (tokens : List Token) (pair : Pair) (rest : List Token) : Type 0 where
  pub pairs : pairs_of tokens ≡ option_map (λ more. pair ∷ more) (pairs_of rest)
  pub shorter : length rest < length tokens
