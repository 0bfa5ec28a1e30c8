-- The faults of a line. Each has its cause, and none of the causes before it in their order is there; so a line has one fault at most.
use Rattle.std.specs.Prelude.{◌≡◌, ◌<◌, ◌≤◌, ℕ, Bool, false, if◌then◌else◌, List, [], ◌∷◌, ◌++◌, length, map, Option, Some, None, codes}
use Rattle.std.specs.List.{AllByRecursion, list_all}
use Rattle.std.specs.Str.{bytes_eq}
use Rattle.trace_format.specs.declared.pair.Pair.{Pair}
use Rattle.trace_script.specs.Commands.{pair_word, IsPair, IsAskedBy, IsLawful}
use Rattle.trace_script.specs.Grammar.{IsWritten}
use Rattle.trace_script.specs.Lines.{is_line_byte, says_nothing}
use Rattle.trace_script.specs.declared.fault.ScriptFault.{ScriptFault}
use Rattle.trace_script.specs.declared.fault.ScriptFault.TheVariants.{LineTooLong, BadByte, UnclosedQuote, UnknownCommand, WrongWords, BadNumber}
use Rattle.trace_script.specs.declared.line.Line.{Line}
use Rattle.trace_script.specs.declared.token.Token.{Token}
use Rattle.trace_script.specs.declared.token.Token.TheVariants.{Word, Redirect}

-- what follows a name: how many words, and of which kind
pub data Shape : Type 0 where
  Emission : Shape
  Writing : Shape
  Limited : Shape
  OnePath : Shape
  NameAlone : Shape

-- the names that a line may have, and what follows each
abbrev pub shape_of : List ℕ → Option Shape
shape_of name =
    if bytes_eq name (codes "parallel") then Some NameAlone
    else (if bytes_eq name (codes "thread") then Some NameAlone
    else (if bytes_eq name (codes "end") then Some NameAlone
    else (if bytes_eq name (codes "emit") then Some Emission
    else (if bytes_eq name (codes "echo") then Some Writing
    else (if bytes_eq name (codes "cat") then Some OnePath
    else (if bytes_eq name (codes "take") then Some Limited
    else (if bytes_eq name (codes "mkdir") then Some OnePath
    else (if bytes_eq name (codes "rmdir") then Some OnePath else None))))))))

-- three words, and one pair or more
pub record IsEmissionShaped (tokens : List Token) : Type 0 where
  pub cpu : List ℕ
  pub pid : List ℕ
  pub event : List ℕ
  pub first : Pair
  pub more : List Pair
  pub written : tokens ≡ Word cpu ∷ Word pid ∷ Word event ∷ map pair_word (first ∷ more)
  pub pairs : AllByRecursion IsPair (first ∷ more)

-- words or none, a redirection and a word
pub record IsWriteShaped (tokens : List Token) : Type 0 where
  pub words : List (List ℕ)
  pub append : Bool
  pub path : List ℕ
  pub written : tokens ≡ map Word words ++ Redirect append ∷ Word path ∷ []

-- the tokens are of this shape, whatever their numbers are
abbrev pub IsShaped : Shape → List Token → Type 0
IsShaped Emission tokens = IsEmissionShaped tokens
IsShaped Writing tokens = IsWriteShaped tokens
IsShaped Limited tokens = (digits : List ℕ) × (path : List ℕ) × (tokens ≡ Word digits ∷ Word path ∷ [])
IsShaped OnePath tokens = (path : List ℕ) × (tokens ≡ Word path ∷ [])
IsShaped NameAlone tokens = tokens ≡ []

-- what follows the first token, if this is the name of a line
abbrev pub named_shape : List Token → Option Shape
named_shape (Word name ∷ tokens) = shape_of name
named_shape _ = None

-- the fault of tokens: the first is no name; what follows the name is not of its shape; or it is, and still asks for nothing, since a word
-- is not the number that is wanted there
pub data AreWrong (tokens : List Token) (fault : ScriptFault) : Type 0 where
  Unnamed : named_shape tokens ≡ None → fault ≡ UnknownCommand → AreWrong tokens fault
  Misshaped : (name : List ℕ) (rest : List Token) (shape : Shape) → tokens ≡ Word name ∷ rest → shape_of name ≡ Some shape
      → (IsShaped shape rest → ⊥) → fault ≡ WrongWords → AreWrong tokens fault
  Misnumbered : (name : List ℕ) (rest : List Token) (shape : Shape) → tokens ≡ Word name ∷ rest → shape_of name ≡ Some shape
      → IsShaped shape rest → ((line : Line) → IsAskedBy tokens line → ⊥) → fault ≡ BadNumber → AreWrong tokens fault

-- the fault of a line: it is too long; a byte of it is wrong; it says something, and is written of no tokens, since a quote is open; or it is
-- written of tokens that have this fault
pub data HasFault (text : List ℕ) (fault : ScriptFault) : Type 0 where
  TooLong : 4096 < length text → fault ≡ LineTooLong → HasFault text fault
  WrongByte : length text ≤ 4096 → list_all is_line_byte text ≡ false → fault ≡ BadByte → HasFault text fault
  OpenQuote : IsLawful text → says_nothing text ≡ false → ((tokens : List Token) → IsWritten text tokens → ⊥) → fault ≡ UnclosedQuote
      → HasFault text fault
  WrongTokens : IsLawful text → says_nothing text ≡ false → (tokens : List Token) → IsWritten text tokens → AreWrong tokens fault
      → HasFault text fault
