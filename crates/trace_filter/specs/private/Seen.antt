-- What the program's tokens stand for.
use Rattle.std.specs.Prelude.{◌≡◌, ◌≤◌, ◌<◌, ℕ, Bool, List, ◌∷◌, length, drop}
use Rattle.trace_filter.specs.declared.token.Literal as literal
use Rattle.trace_filter.specs.declared.token.Literal.TheVariants as literals
use Rattle.trace_filter.specs.declared.token.Token as token
use Rattle.trace_filter.specs.declared.token.Token.TheVariants as tokens
use Rattle.trace_filter.specs.declared.token.ReadToken as pieces
use Rattle.trace_filter.specs.declared.token.Spot as spots
use Rattle.trace_filter.specs.Tokens.{Literal, Word, Quoted, Token, Open, Close, Bang, AndAnd, OrOr, Compare, Name, Value, Illegible, ReadToken, is_comparison, Spot, spots_from}
use Rattle.trace_filter.specs.declared.fault.FilterCause.{FilterCause}
use Rattle.trace_filter.specs.declared.syntax.Verdict.{Verdict}
use Rattle.trace_filter.specs.declared.syntax.Verdict.TheVariants.{Fine, TooDeep, WrongAt}
use Rattle.trace_filter.specs.FilterCauses.{cause_at}

abbrev pub literal_of : literal.Literal → Literal
literal_of (literals.Word bytes) = Word bytes.now
literal_of (literals.Quoted bytes) = Quoted bytes.now

abbrev pub token_of : token.Token → Token
token_of tokens.Open = Open
token_of tokens.Close = Close
token_of tokens.Bang = Bang
token_of tokens.AndAnd = AndAnd
token_of tokens.OrOr = OrOr
token_of (tokens.Compare comparison) = Compare comparison
token_of (tokens.Name bytes) = Name bytes.now
token_of (tokens.Value literal) = Value (literal_of literal)
token_of tokens.Illegible = Illegible

-- the program's piece is the piece, and ends within the bytes
pub record IsPiece (piece : ReadToken) (found : pieces.ReadToken) (rest : List ℕ) : Type 0 where
  pub token : token_of found.token ≡ piece.token
  pub more : found.more ≡ piece.more
  pub within : piece.more ≤ length rest

-- the first token from an offset on, with the others from its end on
pub record IsNextToken (text : List ℕ) (start : ℕ) (value_due : Bool) (found : spots.Spot) : Type 0 where
  pub spots : spots_from value_due 0 start (drop start text) ≡ record { at = found.at; token = token_of found.token } ∷ spots_from (is_comparison (token_of found.token)) 0 found.end (drop found.end text)
  pub within : found.end ≤ length text
  pub after : start ≤ found.at
  pub forward : found.at < found.end

-- where a verdict tells an offset, the cause is the one there
abbrev pub IsCauseOf : List Spot → Verdict → FilterCause → Type 0
IsCauseOf spots Fine cause = Unit {0}
IsCauseOf spots TooDeep cause = Unit {0}
IsCauseOf spots (WrongAt at) cause = cause ≡ cause_at spots at
