-- Tokens are taken from the front of a line one by one.
use Rattle.std.proofs.Common.{◌≡◌, ◌≢◌, ℕ, zero, suc, ◌+◌, ◌<◌, ◌≤◌, Bool, true, false, ◌||◌, ◌==◌, not, cond, ◌⊎◌, inl, inr, List, [], ◌∷◌, ◌++◌, length, get_or, take, drop, drop-cons, Option, is_some, Some, None, Ok, Err, refl, ap, sym, subst, ◌∙◌, arith, append_assoc, length-drop}
use Rattle.std.proofs.lemmas.List.{append-nil, drop_all}
use Rattle.std.proofs.lemmas.Bool.{eqb-true}
use Rattle.std.specs.List.{prefix_len}
use Rattle.trace_lex.specs.Blanks.{is_blank}
use Rattle.trace_script.specs.Tokens.{Between, Arrow, InWord, is_quote, is_end, behind, tokens_from, tokens_of}
use Rattle.trace_script.specs.private.Words.{is_plain, begins_with_quote, begins_with_arrow, BeginsToken, BeginsWord, state_in, IsWordAnd, IsUnclosed}
use Rattle.trace_script.specs.Outcomes.{or_fault, Fails}
use Rattle.trace_script.specs.declared.fault.LineError.{LineError}
use Rattle.trace_script.specs.declared.fault.LineError.TheVariants.{Fault, Memory}
use Rattle.trace_script.specs.declared.fault.ScriptFault.TheVariants.{UnclosedQuote}
use Rattle.trace_script.specs.declared.token.Token.{Token}
use Rattle.trace_script.specs.declared.token.Token.TheVariants.{Word, Redirect}
use Rattle.trace_script.proofs.GrammarLaws.{word_ends, word_goes_on, word_begins, arrow_alone, led, blank_leads, plain_leads}
use Rattle.trace_script.proofs.TokenLemmas.{behind_append}

-- ---- blanks

-- bytes that pass a test at the front of a list
pub drop_more : (n b : ℕ) (bs : List ℕ) → drop (1 + n) (b ∷ bs) ≡ drop n bs
drop_more n b bs = let e : 1 + n ≡ suc n = omega arith in ap (λ (k : ℕ). drop k (b ∷ bs)) e

pub take_more : (n b : ℕ) (bs : List ℕ) → take (1 + n) (b ∷ bs) ≡ b ∷ take n bs
take_more n b bs = let e : 1 + n ≡ suc n = omega arith in ap (λ (k : ℕ). take k (b ∷ bs)) e

skip_step : (b : ℕ) (bs : List ℕ) (t : Bool) → is_blank b ≡ t → tokens_from Between [] (drop (prefix_len is_blank bs) bs) ≡ tokens_from Between [] bs
    → tokens_from Between [] (drop (cond t (1 + prefix_len is_blank bs) 0) (b ∷ bs)) ≡ tokens_from Between [] (b ∷ bs)
skip_step b bs false e rest = refl
skip_step b bs true e rest =
    let h = blank_leads b e in
    ap (tokens_from Between []) (drop_more (prefix_len is_blank bs) b bs) ∙ (rest ∙ sym (led [] b bs Between [] h.0 h.1))

blanks_skipped : (xs : List ℕ) → tokens_from Between [] (drop (prefix_len is_blank xs) xs) ≡ tokens_from Between [] xs
blanks_skipped [] = refl
blanks_skipped (b ∷ bs) = skip_step b bs (is_blank b) refl (blanks_skipped bs)

-- the blanks at the front of a line
pub skipped : (xs : List ℕ) → tokens_of (drop (prefix_len is_blank xs) xs) ≡ tokens_of xs
unfolding tokens_of
skipped xs = blanks_skipped xs

begins_step : (b : ℕ) (bs : List ℕ) (t : Bool) → is_blank b ≡ t → (drop (prefix_len is_blank bs) bs ≢ [] → BeginsToken (drop (prefix_len is_blank bs) bs))
    → drop (cond t (1 + prefix_len is_blank bs) 0) (b ∷ bs) ≢ [] → BeginsToken (drop (cond t (1 + prefix_len is_blank bs) 0) (b ∷ bs))
begins_step b bs false e rest h = e
begins_step b bs true e rest h =
    let same = drop_more (prefix_len is_blank bs) b bs in
    subst BeginsToken (sym same) (rest (λ none. h (same ∙ none)))

pub skipped_begins : (xs : List ℕ) → drop (prefix_len is_blank xs) xs ≢ [] → BeginsToken (drop (prefix_len is_blank xs) xs)
skipped_begins [] h = absurd (h refl)
skipped_begins (b ∷ bs) h = begins_step b bs (is_blank b) refl (skipped_begins bs) h

-- ---- words

-- where a word ends, tokens of the rest follow it
pub word_ended : (w : List ℕ) (xs : List ℕ) → (xs ≡ []) ⊎ ((b : ℕ) × (bs : List ℕ) × (xs ≡ b ∷ bs) × (is_end b ≡ true)) → tokens_from InWord w xs ≡ behind (Word w ∷ []) (tokens_of xs)
unfolding tokens_of
word_ended w [] h = refl
word_ended w (b ∷ bs) (inl e) = absurd (cc)
word_ended w (b ∷ bs) (inr p) = let same : p.0 ≡ b = cc in word_ends w b bs (subst (λ (x : ℕ). is_end x ≡ true) same p.3)

plain_is : (b : ℕ) → is_plain b ≡ true → (is_end b ≡ false) × (is_quote b ≡ false)
plain_is b e = by_tests (is_end b) (is_quote b) e
  where
    by_tests : (x y : Bool) → not (x || y) ≡ true → (x ≡ false) × (y ≡ false)
    by_tests true y e = absurd (cc)
    by_tests false true e = absurd (cc)
    by_tests false false e = (refl, refl)

not_plain : (b : ℕ) → is_plain b ≡ false → is_quote b ≡ false → is_end b ≡ true
not_plain b e q = by_tests (is_end b) (is_quote b) e q
  where
    by_tests : (x y : Bool) → not (x || y) ≡ false → y ≡ false → x ≡ true
    by_tests true y e q = refl
    by_tests false true e q = absurd (cc)
    by_tests false false e q = absurd (cc)

plain_step : (w : List ℕ) (b : ℕ) (bs : List ℕ) (t : Bool) → is_plain b ≡ t → begins_with_quote (drop (cond t (1 + prefix_len is_plain bs) 0) (b ∷ bs)) ≡ false
    → (begins_with_quote (drop (prefix_len is_plain bs) bs) ≡ false
    → tokens_from InWord (w ++ b ∷ []) bs ≡ behind (Word ((w ++ b ∷ []) ++ take (prefix_len is_plain bs) bs) ∷ []) (tokens_of (drop (prefix_len is_plain bs) bs)))
    → tokens_from InWord w (b ∷ bs)
    ≡ behind (Word (w ++ take (cond t (1 + prefix_len is_plain bs) 0) (b ∷ bs)) ∷ []) (tokens_of (drop (cond t (1 + prefix_len is_plain bs) 0) (b ∷ bs)))
plain_step w b bs false e q rest =
    word_ended w (b ∷ bs) (inr (b, bs, refl, not_plain b e q))
    ∙ ap (λ (v : List ℕ). behind (Word v ∷ []) (tokens_of (b ∷ bs))) (sym (append-nil w))
plain_step w b bs true e q rest =
    let p = plain_is b e in
    let l = plain_leads b p.0 p.1 in
    let n = prefix_len is_plain bs in
    word_goes_on w b bs p.0
    ∙ (led w b bs InWord (b ∷ []) l.0 l.1
    ∙ (rest (ap begins_with_quote (sym (drop_more n b bs)) ∙ q)
    ∙ (ap (λ (v : List ℕ). behind (Word v ∷ []) (tokens_of (drop n bs))) (append_assoc w (b ∷ []) (take n bs))
    ∙ (ap (λ (v : List ℕ). behind (Word (w ++ v) ∷ []) (tokens_of (drop n bs))) (sym (take_more n b bs))
    ∙ ap (λ (v : List ℕ). behind (Word (w ++ take (1 + n) (b ∷ bs)) ∷ []) (tokens_of v)) (sym (drop_more n b bs))))))

-- a word that goes on with plain bytes, up to its end
pub plain_word : (w xs : List ℕ) → begins_with_quote (drop (prefix_len is_plain xs) xs) ≡ false
    → tokens_from InWord w xs ≡ behind (Word (w ++ take (prefix_len is_plain xs) xs) ∷ []) (tokens_of (drop (prefix_len is_plain xs) xs))
plain_word w [] q = word_ended w [] (inl refl) ∙ ap (λ (v : List ℕ). behind (Word v ∷ []) (tokens_of [])) (sym (append-nil w))
plain_word w (b ∷ bs) q = plain_step w b bs (is_plain b) refl q (plain_word (w ++ b ∷ []) bs)

-- a word takes a byte of the line at least
pub plain_takes : (xs : List ℕ) → BeginsWord xs → begins_with_quote (drop (prefix_len is_plain xs) xs) ≡ false → length (drop (prefix_len is_plain xs) xs) < length xs
plain_takes [] h q = absurd h
plain_takes (b ∷ bs) h q = takes_step (is_plain b) refl q
  where
    takes_step : (t : Bool) → is_plain b ≡ t → begins_with_quote (drop (cond t (1 + prefix_len is_plain bs) 0) (b ∷ bs)) ≡ false
        → length (drop (cond t (1 + prefix_len is_plain bs) 0) (b ∷ bs)) < length (b ∷ bs)
    takes_step true e q = omega (arith, ap length (drop_more (prefix_len is_plain bs) b bs), length-drop (prefix_len is_plain bs) bs)
    takes_step false e q = let same : true ≡ false = sym (not_plain b e q) ∙ h in absurd (cc)

-- the first byte of a word
pub word_at : (xs : List ℕ) → BeginsWord xs → tokens_of xs ≡ tokens_from InWord [] xs
unfolding tokens_of
word_at [] h = absurd h
word_at (b ∷ bs) h = word_begins b bs h

-- ---- redirections

pub arrow_len : (xs : List ℕ) → begins_with_arrow xs ≡ true → 0 < length xs
arrow_len [] e = absurd (cc)
arrow_len (b ∷ bs) e = omega arith

pub arrow_at : (xs : List ℕ) → begins_with_arrow xs ≡ true → tokens_of xs ≡ tokens_from Arrow [] (drop 1 xs)
unfolding tokens_of
arrow_at [] e = absurd (cc)
arrow_at (b ∷ bs) e = let same : b ≡ 62 = eqb-true b 62 e in rw same refl

pub arrows : (xs : List ℕ) → begins_with_arrow xs ≡ true → tokens_from Arrow [] xs ≡ behind (Redirect true ∷ []) (tokens_of (drop 1 xs))
unfolding tokens_of
arrows [] e = absurd (cc)
arrows (b ∷ bs) e = let same : b ≡ 62 = eqb-true b 62 e in rw same refl

pub single_arrow : (xs : List ℕ) → begins_with_arrow xs ≡ false → tokens_from Arrow [] xs ≡ behind (Redirect false ∷ []) (tokens_of xs)
unfolding tokens_of
single_arrow [] e = refl
single_arrow (b ∷ bs) e = arrow_alone b bs e

-- what begins with another byte than a blank and a `>` begins with a word
pub arrow_or_word : (xs : List ℕ) → BeginsToken xs → begins_with_arrow xs ≡ false → BeginsWord xs
arrow_or_word [] h e = absurd h
arrow_or_word (b ∷ bs) h e = ends_not (is_blank b) (b == 62) h e
  where
    ends_not : (x y : Bool) → x ≡ false → y ≡ false → (x || y) ≡ false
    ends_not true y h e = absurd (cc)
    ends_not false y h e = e

-- ---- the tokens of a line

-- no token yet
pub none_before : (rest : Option (List Token)) → behind [] rest ≡ rest
none_before None = refl
none_before (Some more) = refl

pub not_empty : (xs : List ℕ) → (length xs == 0) ≡ false → xs ≢ []
not_empty [] e = absurd (cc)
not_empty (b ∷ bs) e = λ same. cc

-- one more token
pub token_pushed : (items : List Token) (token : Token) (line rest after next : List ℕ) → behind items (tokens_of rest) ≡ tokens_of line → tokens_of rest ≡ behind (token ∷ []) (tokens_of after)
    → tokens_of next ≡ tokens_of after → behind (items ++ token ∷ []) (tokens_of next) ≡ tokens_of line
token_pushed items token line rest after next e f g =
    ap (behind (items ++ token ∷ [])) g ∙ (behind_append items (token ∷ []) (tokens_of after) ∙ (ap (behind items) (sym f) ∙ e))

pub is_nil : (xs : List ℕ) → (length xs == 0) ≡ true → xs ≡ []
is_nil [] e = refl
is_nil (b ∷ bs) e = absurd (omega (arith, eqb-true (length (b ∷ bs)) 0 e))

-- no byte is left
pub tokens_done : (items : List Token) (line rest : List ℕ) → behind items (tokens_of rest) ≡ tokens_of line → (length rest == 0) ≡ true → or_fault UnclosedQuote (tokens_of line) ≡ Ok items
unfolding tokens_of
tokens_done items line rest e none =
    ap (or_fault UnclosedQuote) (sym e ∙ ap (λ (xs : List ℕ). behind items (tokens_from Between [] xs)) (is_nil rest none)) ∙ ap Ok (append-nil items)

-- a quote is not closed
pub tokens_unclosed : (items : List Token) (line rest : List ℕ) (error : LineError) → behind items (tokens_of rest) ≡ tokens_of line → IsUnclosed error (tokens_of rest)
    → Fails error (or_fault UnclosedQuote (tokens_of line))
tokens_unclosed items line rest Memory e h = tt
tokens_unclosed items line rest (Fault fault) e h =
    ap (or_fault UnclosedQuote) (sym e ∙ ap (behind items) h.1) ∙ ap Err (sym h.0)

-- ---- a word in which quotes are

-- it ends at this byte
pub quoted_ends : (within : Option ℕ) (word line : List ℕ) (at : ℕ) → tokens_from (state_in within) word (drop at line) ≡ tokens_from InWord [] line → is_some within ≡ false → at < length line
    → is_end (get_or line at 0) ≡ true → IsWordAnd line word (drop at line)
quoted_ends (Some quote) word line at e none h ends = absurd (cc)
quoted_ends None word line at e none h ends =
    sym e ∙ word_ended word (drop at line) (inr (get_or line at 0, drop (suc at) line, drop-cons line at 0 h, ends))

-- it ends with the line
pub quoted_done : (within : Option ℕ) (word line : List ℕ) (at : ℕ) → tokens_from (state_in within) word (drop at line) ≡ tokens_from InWord [] line → within ≡ None → length line ≤ at → IsWordAnd line word []
quoted_done (Some quote) word line at e none h = absurd (cc)
quoted_done None word line at e none h =
    sym e ∙ (ap (tokens_from InWord word) (drop_all at line h) ∙ word_ended word [] (inl refl))

-- one byte of it more
pub quoted_step : (within next : Option ℕ) (word more line : List ℕ) (at : ℕ) → at < length line
    → ((bytes : List ℕ) → tokens_from (state_in next) more bytes ≡ tokens_from (state_in within) word (get_or line at 0 ∷ bytes))
    → tokens_from (state_in within) word (drop at line) ≡ tokens_from InWord [] line → tokens_from (state_in next) more (drop (at + 1) line) ≡ tokens_from InWord [] line
quoted_step within next word more line at h steps e =
    let one : at + 1 ≡ suc at = omega arith in
    steps (drop (at + 1) line)
    ∙ (ap (λ k. tokens_from (state_in within) word (get_or line at 0 ∷ drop k line)) one
    ∙ (ap (tokens_from (state_in within) word) (sym (drop-cons line at 0 h)) ∙ e))

-- what follows it is shorter than the line
pub quoted_shorter : (line : List ℕ) (at : ℕ) → BeginsWord line → is_end (get_or line at 0) ≡ true → length (drop at line) < length line
quoted_shorter [] at h ends = absurd h
quoted_shorter (b ∷ bs) zero h ends = absurd (cc)
quoted_shorter (b ∷ bs) (suc n) h ends = omega (arith, length-drop n bs)

pub word_some : (line : List ℕ) → BeginsWord line → 0 < length line
word_some [] h = absurd h
word_some (b ∷ bs) h = omega arith
