-- Words of a line that has neither quotes nor `>`: each ends at the first byte that is not above a space.
use Rattle.std.proofs.Common.{◌≡◌, ◌≢◌, ◌⊎◌, inl, inr, ℕ, ◌+◌, nat_lt, Bool, true, false, not, ◌&&◌, ◌||◌, ◌==◌, cond, List, [], ◌∷◌, ◌++◌, length, take, drop, Some, codes, refl, ap, sym, subst, ◌∙◌, arith}
use Rattle.std.proofs.lemmas.List.{append-nil, drop_all, take_all, take-append-drop}
use Rattle.std.proofs.lemmas.Slice.Eq.{bytes_eq-Decides}
use Rattle.std.specs.Str.{bytes_eq}
use Rattle.std.proofs.lemmas.Bool.Decides.{nat_tests}
use Rattle.std.specs.List.{prefix_len}
use Rattle.trace_lex.specs.Blanks.{is_blank}
use Rattle.trace_script.specs.Lines.{says_nothing}
use Rattle.trace_script.specs.PlainEmissions.{is_spaced}
use Rattle.trace_script.specs.Tokens.{Between, is_end, behind, tokens_of}
use Rattle.trace_script.specs.private.Bytes.{rank, highest_rank}
use Rattle.trace_script.specs.private.Words.{is_plain, begins_with_quote, BeginsWord}
use Rattle.trace_script.specs.declared.token.Token.TheVariants.{Word}
use Rattle.trace_script.proofs.ByteLemmas.{unquoted, later_le}
use Rattle.trace_script.proofs.GrammarLaws.{led, blank_leads}
use Rattle.trace_script.proofs.TakingLemmas.{unquoted_drop, no_quote}
use Rattle.trace_script.proofs.WordLemmas.{plain_word, word_at, drop_more, take_more, is_nil}

abbrev above : ℕ → Bool
above b = nat_lt 32 b

-- ---- bytes

plain_above : (b : ℕ) → rank b ≡ 0 → above b ≡ is_plain b
plain_above b h = grind (arith, nat_tests)

is_gap : (b : ℕ) → rank b ≡ 0 → above b ≡ false → is_blank b ≡ true
is_gap b h e = grind (arith, nat_tests)

pub word_byte : (b : ℕ) → rank b ≡ 0 → above b ≡ true → is_end b ≡ false
word_byte b h e = grind (arith, nat_tests)

-- ---- where a word ends

prefix_same : (xs : List ℕ) → highest_rank xs ≡ 0 → prefix_len above xs ≡ prefix_len is_plain xs
prefix_same [] h = refl
prefix_same (b ∷ bs) h = rw (plain_above b (omega (arith, h)), prefix_same bs (omega (arith, h))) refl

-- a word that is not empty begins the line
begins : (xs : List ℕ) → highest_rank xs ≡ 0 → take (prefix_len above xs) xs ≢ [] → BeginsWord xs
begins [] h some = some refl
begins (b ∷ bs) h some = by_test (above b) refl some
  where
    by_test : (t : Bool) → above b ≡ t → take (cond t (1 + prefix_len above bs) 0) (b ∷ bs) ≢ [] → is_end b ≡ false
    by_test true e some = word_byte b (omega (arith, h)) e
    by_test false e some = absurd (some refl)

-- a blank follows it
pub stops : (xs : List ℕ) → highest_rank xs ≡ 0 → (b : ℕ) (rest : List ℕ) → drop (prefix_len above xs) xs ≡ b ∷ rest → (is_blank b ≡ true) × (highest_rank rest ≡ 0)
stops [] h b rest e = absurd (cc)
stops (c ∷ cs) h b rest e = by_test (above c) refl (λ f. stops cs (omega (arith, h)) b rest f) e
  where
    by_test : (t : Bool) → above c ≡ t → (drop (prefix_len above cs) cs ≡ b ∷ rest → (is_blank b ≡ true) × (highest_rank rest ≡ 0)) → drop (cond t (1 + prefix_len above cs) 0) (c ∷ cs) ≡ b ∷ rest → (is_blank b ≡ true) × (highest_rank rest ≡ 0)
    by_test true f more e = more (sym (drop_more (prefix_len above cs) c cs) ∙ e)
    by_test false f more e =
        let first : c ≡ b = cc in
        let others : cs ≡ rest = cc in
        (subst (λ (x : ℕ). is_blank x ≡ true) first (is_gap c (omega (arith, h)) f), subst (λ (ys : List ℕ). highest_rank ys ≡ 0) others (omega (arith, h)))

pub blank_skipped : (b : ℕ) (rest : List ℕ) → is_blank b ≡ true → tokens_of (b ∷ rest) ≡ tokens_of rest
unfolding tokens_of
blank_skipped b rest e = let h = blank_leads b e in led [] b rest Between [] h.0 h.1

-- the first word, and what follows the blank after it
pub first_word : (line : List ℕ) → highest_rank line ≡ 0 → BeginsWord line
    → tokens_of line ≡ behind (Word (take (prefix_len above line) line) ∷ []) (tokens_of (drop (prefix_len above line) line))
first_word line h begins =
    let n = prefix_len is_plain line in
    let quiet : begins_with_quote (drop n line) ≡ false = no_quote (drop n line) (unquoted_drop n line (unquoted line (omega (arith, h)))) in
    word_at line begins
    ∙ (plain_word [] line quiet
    ∙ ap (λ (k : ℕ). behind (Word (take k line) ∷ []) (tokens_of (drop k line))) (sym (prefix_same line h)))

is_some_word : (word : List ℕ) → (length word == 0) ≡ false → word ≢ []
is_some_word [] e = absurd (cc)
is_some_word (b ∷ bs) e = λ same. cc

some_first : (xs : List ℕ) → (length xs == 0) ≡ false → (b : ℕ) × (xs ≡ b ∷ drop 1 xs)
some_first [] e = absurd (cc)
some_first (b ∷ bs) e = (b, refl)

pub word_cut : (n : ℕ) (line word rest : List ℕ) → highest_rank line ≡ 0 → n ≡ prefix_len (λ b. nat_lt 32 b) line → word ≡ take n line → rest ≡ drop n line
    → (length word == 0) ≡ false → (length rest == 0) ≡ false → tokens_of line ≡ behind (Word word ∷ []) (tokens_of (drop 1 rest))
word_cut n line word rest h is front back some more =
    let k = prefix_len above line in
    let same : word ≡ take k line = front ∙ ap (λ (m : ℕ). take m line) is in
    let left : rest ≡ drop k line = back ∙ ap (λ (m : ℕ). drop m line) is in
    let first = some_first rest more in
    let gap = stops line h first.0 (drop 1 rest) (sym left ∙ first.1) in
    first_word line h (begins line h (subst (λ (w : List ℕ). w ≢ []) same (is_some_word word some)))
    ∙ (ap (λ (w : List ℕ). behind (Word w ∷ []) (tokens_of (drop k line))) (sym same)
    ∙ ap (behind (Word word ∷ [])) (ap tokens_of (sym left ∙ first.1) ∙ blank_skipped first.0 (drop 1 rest) gap.0))

pub rest_is_bare : (n : ℕ) (line rest : List ℕ) → highest_rank line ≡ 0 → rest ≡ drop n line → highest_rank (drop 1 rest) ≡ 0
rest_is_bare n line rest h back =
    let a = later_le n 0 line (omega arith) in
    let b = later_le 1 0 rest (omega arith) in
    let e = ap highest_rank back in
    omega (arith, h, a, b, e)

nothing_left : tokens_of [] ≡ Some []
unfolding tokens_of
nothing_left = refl

-- a line that is one word
pub single_word : (line : List ℕ) → highest_rank line ≡ 0 → (length line == 0) ≡ false → prefix_len (λ b. nat_lt 32 b) line ≡ length line → tokens_of line ≡ Some (Word line ∷ [])
single_word line h some e =
    let n = prefix_len above line in
    let whole : take n line ≡ line = take_all n line (omega (arith, e)) in
    let none : drop n line ≡ [] = drop_all n line (omega (arith, e)) in
    first_word line h (begins line h (subst (λ (w : List ℕ). w ≢ []) (sym whole) (is_some_word line some)))
    ∙ (ap (λ (w : List ℕ). behind (Word w ∷ []) (tokens_of (drop n line))) whole
    ∙ ap (behind (Word line ∷ [])) (ap tokens_of none ∙ nothing_left))

-- ---- one blank between each two words

both_true : (x y : Bool) → (x && y) ≡ true → (x ≡ true) × (y ≡ true)
both_true true y e = (refl, e)
both_true false y e = absurd cc

no_blank : (b : ℕ) → rank b ≡ 0 → above b ≡ true → is_blank b ≡ false
no_blank b h e = grind (arith, nat_tests)

not_above : (b : ℕ) → rank b ≡ 0 → is_blank b ≡ false → above b ≡ true
not_above b h e = grind (arith, nat_tests)

not_true : (x : Bool) → not x ≡ true → x ≡ false
not_true true e = absurd cc
not_true false e = refl

-- the first byte after a blank is of a word
spaced_first : (b : ℕ) (bs : List ℕ) → is_spaced true (b ∷ bs) ≡ true → is_blank b ≡ false
spaced_first b bs e = not_true (is_blank b) (both_true (not (is_blank b)) (is_spaced (is_blank b) bs) e).0

spaced_alike : (xs : List ℕ) → is_spaced true xs ≡ true → is_spaced false xs ≡ true
spaced_alike [] e = refl
spaced_alike (b ∷ bs) e = (both_true (not (is_blank b)) (is_spaced (is_blank b) bs) e).1

spaced_on : (xs : List ℕ) → highest_rank xs ≡ 0 → is_spaced false xs ≡ true → is_spaced false (drop (prefix_len above xs) xs) ≡ true
spaced_on [] h e = e
spaced_on (b ∷ bs) h e = by_test (above b) refl (λ f. spaced_on bs (omega (arith, h)) f)
  where
    by_test : (t : Bool) → above b ≡ t → (is_spaced false bs ≡ true → is_spaced false (drop (prefix_len above bs) bs) ≡ true)
        → is_spaced false (drop (cond t (1 + prefix_len above bs) 0) (b ∷ bs)) ≡ true
    by_test true f more =
        let next : is_spaced false bs ≡ true = subst (λ (x : Bool). is_spaced x bs ≡ true) (no_blank b (omega (arith, h)) f) e in
        ap (is_spaced false) (drop_more (prefix_len above bs) b bs) ∙ more next
    by_test false f more = e

pub spaced_after : (line : List ℕ) → highest_rank line ≡ 0 → is_spaced true line ≡ true → (b : ℕ) (rest : List ℕ) → drop (prefix_len above line) line ≡ b ∷ rest → is_spaced true rest ≡ true
spaced_after line h e b rest is =
    let gap = stops line h b rest is in
    subst (λ (x : Bool). is_spaced x rest ≡ true) gap.0 (sym (ap (is_spaced false) is) ∙ spaced_on line h (spaced_alike line e))

pub spaced_word : (n : ℕ) (line rest : List ℕ) → highest_rank line ≡ 0 → n ≡ prefix_len (λ b. nat_lt 32 b) line → rest ≡ drop n line → (length rest == 0) ≡ false
    → is_spaced true line ≡ true → is_spaced true (drop 1 rest) ≡ true
spaced_word n line rest h is back more e =
    let left : rest ≡ drop (prefix_len above line) line = back ∙ ap (λ (m : ℕ). drop m line) is in
    let first = some_first rest more in
    spaced_after line h e first.0 (drop 1 rest) (sym left ∙ first.1)

-- a line that begins with a byte of a word does not begin with an empty word
pub some_word : (line : List ℕ) → highest_rank line ≡ 0 → is_spaced true line ≡ true → BeginsWord line
some_word [] h e = absurd cc
some_word (b ∷ bs) h e = word_byte b (omega (arith, h)) (not_above b (omega (arith, h)) (spaced_first b bs e))

no_word : (line : List ℕ) → highest_rank line ≡ 0 → is_spaced true line ≡ true → take (prefix_len above line) line ≢ []
no_word [] h e = absurd cc
no_word (b ∷ bs) h e = rw (not_above b (omega (arith, h)) (spaced_first b bs e), take_more (prefix_len above bs) b bs) (λ none. cc)

either : (x y : Bool) → (x || y) ≡ true → (x ≡ true) ⊎ (y ≡ true)
either true y e = inl refl
either false y e = inr e

pub either_empty : (x y : Bool) → (x ≡ true) ⊎ (y ≡ true) → (x || y) ≡ true
either_empty true y e = refl
either_empty false y (inl e) = absurd cc
either_empty false y (inr e) = e

-- a line that is cut into no word and a rest is one word
pub word_alone : (n : ℕ) (line word rest : List ℕ) → highest_rank line ≡ 0 → n ≡ prefix_len (λ b. nat_lt 32 b) line → word ≡ take n line → rest ≡ drop n line
    → (length word == 0 || length rest == 0) ≡ true → is_spaced true line ≡ true → tokens_of line ≡ Some (Word line ∷ [])
word_alone n line word rest h is front back none e = by_case (either (length word == 0) (length rest == 0) none)
  where
    same : word ≡ take (prefix_len above line) line
    same = front ∙ ap (λ (m : ℕ). take m line) is

    left : rest ≡ drop (prefix_len above line) line
    left = back ∙ ap (λ (m : ℕ). drop m line) is

    by_case : ((length word == 0) ≡ true) ⊎ ((length rest == 0) ≡ true) → tokens_of line ≡ Some (Word line ∷ [])
    by_case (inl empty) = absurd (no_word line h e (sym same ∙ is_nil word empty))
    by_case (inr empty) =
        let ended : drop (prefix_len above line) line ≡ [] = sym left ∙ is_nil rest empty in
        let whole : take (prefix_len above line) line ≡ line =
        sym (append-nil (take (prefix_len above line) line))
        ∙ (ap (λ (xs : List ℕ). take (prefix_len above line) line ++ xs) (sym ended) ∙ take-append-drop (prefix_len above line) line) in
        first_word line h (some_word line h e)
        ∙ (ap (λ (w : List ℕ). behind (Word w ∷ []) (tokens_of (drop (prefix_len above line) line))) whole
        ∙ ap (behind (Word line ∷ [])) (ap tokens_of ended ∙ nothing_left))

-- ---- an emission

pub after_emit : (line : List ℕ) → bytes_eq (take 5 line) (codes "emit ") ≡ true → line ≡ codes "emit " ++ drop 5 line
after_emit line is =
    sym (take-append-drop 5 line) ∙ ap (λ (name : List ℕ). name ++ drop 5 line) ((bytes_eq-Decides (take 5 line) (codes "emit ")).0 is)

pub emit_cut : (rest : List ℕ) → tokens_of (codes "emit " ++ rest) ≡ behind (Word (codes "emit") ∷ []) (tokens_of rest)
unfolding tokens_of
emit_cut rest = refl

pub emit_says : (line rest : List ℕ) → line ≡ codes "emit " ++ rest → says_nothing line ≡ false
emit_says line rest is = rw is refl
