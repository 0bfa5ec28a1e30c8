-- Tokens are taken one by one from what is left of a line without quotes.
use Rattle.std.proofs.Common.{◌≡◌, ◌≢◌, ℕ, zero, suc, Bool, true, false, ◌||◌, ◌==◌, cond, List, [], ◌∷◌, ◌++◌, drop, Option, is_some, unwrap_or, Some, None, refl, ap, sym, ◌∙◌}
use Rattle.std.specs.List.{list_any}
use Rattle.trace_lex.specs.Blanks.{is_blank}
use Rattle.trace_script.specs.Tokens.{LexState, Between, Arrow, InWord, InQuotes, is_quote, is_end, state_of, plain, behind, tokens_from, tokens_of}
use Rattle.trace_script.specs.private.Words.{begins_with_quote, begins_with_arrow, BeginsToken, BeginsWord, IsWordAnd}
use Rattle.trace_script.specs.private.TokensLeft.{tokens_left}
use Rattle.trace_script.specs.declared.token.Token.{Token}
use Rattle.trace_script.specs.declared.token.Token.TheVariants.{Word, Redirect}
use Rattle.trace_script.proofs.WordLemmas.{arrow_at, word_at}

-- ---- a line without quotes

-- a state that is in no quotes
abbrev IsOutside : LexState → Type 0
IsOutside Between = Unit {0}
IsOutside Arrow = Unit {0}
IsOutside InWord = Unit {0}
IsOutside (InQuotes quote) = ⊥

leads_outside : (b : ℕ) → is_quote b ≡ false → IsOutside (state_of b)
leads_outside b e = by_tests (is_blank b) (b == 62) (is_quote b) e
  where
    by_tests : (x y z : Bool) → z ≡ false → IsOutside (cond x Between (cond y Arrow (cond z (InQuotes b) InWord)))
    by_tests true y z e = tt
    by_tests false true z e = tt
    by_tests false false true e = absurd (cc)
    by_tests false false false e = tt

either_false : (x y : Bool) → (x || y) ≡ false → (x ≡ false) × (y ≡ false)
either_false true y e = absurd (cc)
either_false false y e = (refl, e)

some_behind : (tokens : List Token) (rest : Option (List Token)) → is_some (behind tokens rest) ≡ is_some rest
some_behind tokens None = refl
some_behind tokens (Some more) = refl

unquoted : (state : LexState) (word bs : List ℕ) → IsOutside state → list_any is_quote bs ≡ false → is_some (tokens_from state word bs) ≡ true
unquoted Between word [] out none = refl
unquoted Arrow word [] out none = refl
unquoted InWord word [] out none = refl
unquoted (InQuotes quote) word bs out none = absurd out
unquoted Between word (b ∷ bs) out none =
    let h = either_false (is_quote b) (list_any is_quote bs) none in
    unquoted (state_of b) (word ++ plain b) bs (leads_outside b h.0) h.1
unquoted Arrow word (b ∷ bs) out none =
    let h = either_false (is_quote b) (list_any is_quote bs) none in
    by_test (b == 62) (unquoted Between word bs tt h.1) (unquoted (state_of b) (word ++ plain b) bs (leads_outside b h.0) h.1)
  where
    by_test : (t : Bool) → is_some (tokens_from Between word bs) ≡ true → is_some (tokens_from (state_of b) (word ++ plain b) bs) ≡ true
        → is_some (cond t (behind (Redirect true ∷ []) (tokens_from Between word bs)) (behind (Redirect false ∷ []) (tokens_from (state_of b) (word ++ plain b) bs))) ≡ true
    by_test true f g = some_behind (Redirect true ∷ []) (tokens_from Between word bs) ∙ f
    by_test false f g = some_behind (Redirect false ∷ []) (tokens_from (state_of b) (word ++ plain b) bs) ∙ g
unquoted InWord word (b ∷ bs) out none =
    let h = either_false (is_quote b) (list_any is_quote bs) none in
    by_test (is_end b) (unquoted (state_of b) [] bs (leads_outside b h.0) h.1) (unquoted (state_of b) (word ++ plain b) bs (leads_outside b h.0) h.1)
  where
    by_test : (t : Bool) → is_some (tokens_from (state_of b) [] bs) ≡ true → is_some (tokens_from (state_of b) (word ++ plain b) bs) ≡ true
        → is_some (cond t (behind (Word word ∷ []) (tokens_from (state_of b) [] bs)) (tokens_from (state_of b) (word ++ plain b) bs)) ≡ true
    by_test true f g = some_behind (Word word ∷ []) (tokens_from (state_of b) [] bs) ∙ f
    by_test false f g = g

-- a line without quotes has none that is not closed
pub unquoted_line : (line : List ℕ) → list_any is_quote line ≡ false → is_some (tokens_of line) ≡ true
unfolding tokens_of
unquoted_line line none = unquoted Between [] line tt none

-- and neither has what is left of it
pub unquoted_drop : (n : ℕ) (xs : List ℕ) → list_any is_quote xs ≡ false → list_any is_quote (drop n xs) ≡ false
unquoted_drop zero xs none = none
unquoted_drop (suc n) [] none = none
unquoted_drop (suc n) (b ∷ bs) none = unquoted_drop n bs (either_false (is_quote b) (list_any is_quote bs) none).1

pub no_quote : (xs : List ℕ) → list_any is_quote xs ≡ false → begins_with_quote xs ≡ false
no_quote [] none = refl
no_quote (b ∷ bs) none = (either_false (is_quote b) (list_any is_quote bs) none).0

-- ---- one token more

some_of : (o : Option (List Token)) → is_some o ≡ true → o ≡ Some (unwrap_or o [])
some_of None e = absurd (cc)
some_of (Some ts) e = refl

-- all tokens of a line without quotes are left
pub all_left : (line next : List ℕ) → list_any is_quote line ≡ false → tokens_of next ≡ tokens_of line → tokens_of line ≡ Some (tokens_left next)
all_left line next none same = some_of (tokens_of line) (unquoted_line line none) ∙ ap (λ o. Some (unwrap_or o [])) (sym same)

token_taken : (line after next : List ℕ) (token : Token) → list_any is_quote line ≡ false → tokens_of line ≡ behind (token ∷ []) (tokens_of after) → tokens_of next ≡ tokens_of after
    → tokens_left line ≡ token ∷ tokens_left next
token_taken line after next token none found same = by_option (tokens_of line) (tokens_of after) (tokens_of next) (unquoted_line line none) found same
  where
    by_option : (o p q : Option (List Token)) → is_some o ≡ true → o ≡ behind (token ∷ []) p → q ≡ p → unwrap_or o [] ≡ token ∷ unwrap_or q []
    by_option o None q closed found same = absurd (let e : true ≡ false = sym closed ∙ ap is_some found in cc)
    by_option o (Some more) q closed found same = ap (λ x. unwrap_or x []) found ∙ ap (λ x. token ∷ unwrap_or x []) (sym same)

-- a redirection
pub arrow_taken : (line rest next : List ℕ) (append : Bool) → list_any is_quote line ≡ false → begins_with_arrow line ≡ true → tokens_from Arrow [] (drop 1 line) ≡ behind (Redirect append ∷ []) (tokens_of rest) → tokens_of next ≡ tokens_of rest
    → tokens_left line ≡ Redirect append ∷ tokens_left next
arrow_taken line rest next append none arrow found same = token_taken line rest next (Redirect append) none (arrow_at line arrow ∙ found) same

-- a word
pub word_taken : (line word rest next : List ℕ) → list_any is_quote line ≡ false → BeginsWord line → IsWordAnd line word rest → tokens_of next ≡ tokens_of rest
    → tokens_left line ≡ Word word ∷ tokens_left next
word_taken line word rest next none begins found same = token_taken line rest next (Word word) none (word_at line begins ∙ found) same

-- ---- whether a token is left

-- a state within a token
abbrev IsWithin : LexState → Type 0
IsWithin Between = ⊥
IsWithin Arrow = Unit {0}
IsWithin InWord = Unit {0}
IsWithin (InQuotes quote) = Unit {0}

leads_within : (b : ℕ) → is_blank b ≡ false → IsWithin (state_of b)
leads_within b e = by_tests (is_blank b) (b == 62) (is_quote b) e
  where
    by_tests : (x y z : Bool) → x ≡ false → IsWithin (cond x Between (cond y Arrow (cond z (InQuotes b) InWord)))
    by_tests true y z e = absurd (cc)
    by_tests false true z e = tt
    by_tests false false true e = tt
    by_tests false false false e = tt

not_blank : (b : ℕ) → is_end b ≡ false → is_blank b ≡ false
not_blank b e = (either_false (is_blank b) (b == 62) e).0

not_nil_behind : (token : Token) (rest : Option (List Token)) → behind (token ∷ []) rest ≢ Some []
not_nil_behind token None e = cc
not_nil_behind token (Some more) e = cc

some_token : (state : LexState) (word bs : List ℕ) → IsWithin state → tokens_from state word bs ≢ Some []
some_token Between word bs within = absurd within
some_token Arrow word [] within = λ e. cc
some_token InWord word [] within = λ e. cc
some_token (InQuotes quote) word [] within = λ e. cc
some_token Arrow word (b ∷ bs) within = by_test (b == 62)
  where
    by_test : (t : Bool) → cond t (behind (Redirect true ∷ []) (tokens_from Between word bs)) (behind (Redirect false ∷ []) (tokens_from (state_of b) (word ++ plain b) bs)) ≢ Some []
    by_test true = not_nil_behind (Redirect true) (tokens_from Between word bs)
    by_test false = not_nil_behind (Redirect false) (tokens_from (state_of b) (word ++ plain b) bs)
some_token InWord word (b ∷ bs) within = by_test (is_end b) refl (some_token (state_of b) (word ++ plain b) bs)
  where
    by_test : (t : Bool) → is_end b ≡ t → (IsWithin (state_of b) → tokens_from (state_of b) (word ++ plain b) bs ≢ Some [])
        → cond t (behind (Word word ∷ []) (tokens_from (state_of b) [] bs)) (tokens_from (state_of b) (word ++ plain b) bs) ≢ Some []
    by_test true e f = not_nil_behind (Word word) (tokens_from (state_of b) [] bs)
    by_test false e f = f (leads_within b (not_blank b e))
some_token (InQuotes quote) word (b ∷ bs) within = by_test (b == quote) (some_token InWord word bs tt) (some_token (InQuotes quote) (word ++ b ∷ []) bs tt)
  where
    by_test : (t : Bool) → tokens_from InWord word bs ≢ Some [] → tokens_from (InQuotes quote) (word ++ b ∷ []) bs ≢ Some []
        → cond t (tokens_from InWord word bs) (tokens_from (InQuotes quote) (word ++ b ∷ []) bs) ≢ Some []
    by_test true f g = f
    by_test false f g = g

is_nothing : (o : Option (List Token)) → is_some o ≡ true → unwrap_or o [] ≡ [] → o ≡ Some []
is_nothing None closed e = absurd (cc)
is_nothing (Some ts) closed e = ap Some e

-- where no token is left no byte is
pub no_token_left : (rest : List ℕ) → list_any is_quote rest ≡ false → (rest ≢ [] → BeginsToken rest) → tokens_left rest ≡ [] → rest ≡ []
unfolding tokens_of
no_token_left [] unquoted begins none = refl
no_token_left (b ∷ bs) unquoted begins none =
    let first : is_blank b ≡ false = begins (λ e. cc) in
    absurd (some_token (state_of b) ([] ++ plain b) bs (leads_within b first) (is_nothing (tokens_from Between [] (b ∷ bs)) (unquoted_line (b ∷ bs) unquoted) none))

pub no_byte_left : (rest : List ℕ) → rest ≡ [] → tokens_left rest ≡ []
unfolding tokens_of
no_byte_left rest none = ap (λ (xs : List ℕ). unwrap_or (tokens_from Between [] xs) []) none
