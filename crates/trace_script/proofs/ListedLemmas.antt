-- Tokens put at the end of a list.
use Rattle.std.proofs.Common.{◌≡◌, ◌==◌, ℕ, Bool, true, List, [], ◌∷◌, ◌++◌, length, length-append, take, drop, refl, ap, ap₂, sym, subst, ◌∙◌, arith}
use Rattle.std.proofs.lemmas.Bool.{eqb-true}
use Rattle.std.proofs.lemmas.List.{drop_all, take_all, take-append-le, drop-append-le}
use Rattle.trace_script.specs.private.Listed.{listed, AreWordsOf}
use Rattle.trace_script.specs.declared.tokens.ListedToken.{ListedToken}
use Rattle.trace_script.specs.declared.tokens.ListedToken.TheVariants as at
use Rattle.trace_script.specs.declared.token.Token.{Token}
use Rattle.trace_script.specs.declared.token.Token.TheVariants.{Word, Redirect}

pub word_listed : (words word : List ℕ) (tokens : List ListedToken) → AreWordsOf words tokens
    → listed (words ++ word) (tokens ++ at.Word (length word) ∷ []) ≡ listed words tokens ++ Word word ∷ []
word_listed words word [] are = rw are (ap (λ (w : List ℕ). Word w ∷ []) (take_all (length word) word (omega arith)))
word_listed words word (at.Word len ∷ tokens) are =
    ap₂ (λ (w : List ℕ) (ts : List Token). Word w ∷ ts) (take-append-le len words word are.0)
    (ap (λ (ws : List ℕ). listed ws (tokens ++ at.Word (length word) ∷ [])) (drop-append-le len words word are.0)
    ∙ word_listed (drop len words) word tokens are.1)
word_listed words word (at.Redirect append ∷ tokens) are = ap (λ (ts : List Token). Redirect append ∷ ts) (word_listed words word tokens are)

pub word_spelled : (words word : List ℕ) (tokens : List ListedToken) → AreWordsOf words tokens
    → AreWordsOf (words ++ word) (tokens ++ at.Word (length word) ∷ [])
word_spelled words word [] are = rw are (omega arith, drop_all (length word) word (omega arith))
word_spelled words word (at.Word len ∷ tokens) are = (
  omega (arith, are.0, length-append words word),
  subst (λ (ws : List ℕ). AreWordsOf ws (tokens ++ at.Word (length word) ∷ [])) (sym (drop-append-le len words word are.0))
      (word_spelled (drop len words) word tokens are.1),
)
word_spelled words word (at.Redirect append ∷ tokens) are = word_spelled words word tokens are

pub redirect_listed : (words : List ℕ) (tokens : List ListedToken) (append : Bool)
    → listed words (tokens ++ at.Redirect append ∷ []) ≡ listed words tokens ++ Redirect append ∷ []
redirect_listed words [] append = refl
redirect_listed words (at.Word len ∷ tokens) append = ap (λ (ts : List Token). Word (take len words) ∷ ts) (redirect_listed (drop len words) tokens append)
redirect_listed words (at.Redirect other ∷ tokens) append = ap (λ (ts : List Token). Redirect other ∷ ts) (redirect_listed words tokens append)

pub redirect_spelled : (words : List ℕ) (tokens : List ListedToken) (append : Bool) → AreWordsOf words tokens
    → AreWordsOf words (tokens ++ at.Redirect append ∷ [])
redirect_spelled words [] append are = are
redirect_spelled words (at.Word len ∷ tokens) append are = (are.0, redirect_spelled (drop len words) tokens append are.1)
redirect_spelled words (at.Redirect other ∷ tokens) append are = redirect_spelled words tokens append are

-- whether a list has no token
some_token : (token : Token) (tokens left : List Token) → left ≡ token ∷ tokens → left ≡ [] → ⊥
some_token token tokens left are none = let both : token ∷ tokens ≡ [] = sym are ∙ none in cc

pub is_listed_empty : (words : List ℕ) (tokens : List ListedToken) (empty : Bool) (left : List Token) → empty ≡ (length tokens == 0) → left ≡ listed words tokens
    → (empty ≡ true → left ≡ []) × (left ≡ [] → empty ≡ true)
is_listed_empty words [] empty left is are = (λ e. are, λ none. is)
is_listed_empty words (at.Word len ∷ tokens) empty left is are = (
  λ e. absurd (omega (arith, eqb-true (length (at.Word len ∷ tokens)) 0 (sym is ∙ e))),
  λ none. absurd (some_token (Word (take len words)) (listed (drop len words) tokens) left are none),
)
is_listed_empty words (at.Redirect append ∷ tokens) empty left is are = (
  λ e. absurd (omega (arith, eqb-true (length (at.Redirect append ∷ tokens)) 0 (sym is ∙ e))),
  λ none. absurd (some_token (Redirect append) (listed words tokens) left are none),
)
