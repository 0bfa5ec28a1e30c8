-- Tokens in a list, the bytes of whose words lie elsewhere, one word behind the other.
use Rattle.std.specs.Prelude.{◌≡◌, ◌≤◌, ℕ, List, [], ◌∷◌, length, take, drop}
use Rattle.trace_script.specs.declared.tokens.ListedToken.{ListedToken}
use Rattle.trace_script.specs.declared.tokens.ListedToken.TheVariants as at
use Rattle.trace_script.specs.declared.token.Token.{Token}
use Rattle.trace_script.specs.declared.token.Token.TheVariants.{Word, Redirect}

abbrev pub listed : List ℕ → List ListedToken → List Token
listed words [] = []
listed words (at.Word len ∷ tokens) = Word (take len words) ∷ listed (drop len words) tokens
listed words (at.Redirect append ∷ tokens) = Redirect append ∷ listed words tokens

-- each of these bytes is of a word in the list
abbrev pub AreWordsOf : List ℕ → List ListedToken → Type 0
AreWordsOf words [] = words ≡ []
AreWordsOf words (at.Word len ∷ tokens) = (len ≤ length words) × AreWordsOf (drop len words) tokens
AreWordsOf words (at.Redirect append ∷ tokens) = AreWordsOf words tokens
