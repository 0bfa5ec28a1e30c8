-- Pairs of a line that has neither quotes nor `>`: each is a name, a `=`, and what stands before the first byte that is not above a space.
use Rattle.std.proofs.Common.{◌≡◌, ◌≢◌, ℕ, ◌+◌, ◌-◌, ◌<◌, nat_lt, Bool, true, false, ◌&&◌, ◌==◌, not, cond, List, [], ◌∷◌, ◌++◌, length, take, drop, Option, Some, None, refl, ap, sym, subst, ◌∙◌, arith, length-append, length-drop}
use Rattle.std.proofs.Math.Seq.{take-append-add, drop-append-add}
use Rattle.std.proofs.lemmas.Bool.Decides.{nat_tests}
use Rattle.std.proofs.lemmas.List.{take_all, take-append-drop}
use Rattle.std.specs.List.{AllByRecursion, prefix_len}
use Rattle.std.specs.Option.{option_map, option_and_then}
use Rattle.trace_format.specs.declared.pair.Pair.{Pair}
use Rattle.trace_script.specs.Lines.{pair_of, pairs_of}
use Rattle.trace_script.specs.PlainEmissions.{is_spaced}
use Rattle.trace_script.specs.Tokens.{behind, tokens_of}
use Rattle.trace_script.specs.private.Bytes.{highest_rank}
use Rattle.trace_script.specs.private.Emissions.{pairs_in}
use Rattle.trace_script.specs.private.Words.{BeginsWord}
use Rattle.trace_script.specs.declared.token.Token.{Token}
use Rattle.trace_script.specs.declared.token.Token.TheVariants.{Word}
use Rattle.trace_script.proofs.BareLines.{first_word, stops, word_byte, blank_skipped, some_word, spaced_after}
use Rattle.trace_script.proofs.ByteLemmas.{later_le}
use Rattle.trace_script.proofs.CommandLaws.{pair_read, pair_found}
use Rattle.trace_script.proofs.WordLemmas.{take_more, drop_more}

abbrev above : ℕ → Bool
above b = nat_lt 32 b

-- a byte of a name
abbrev in_name : ℕ → Bool
in_name b = nat_lt 32 b && not (b == 61)

abbrev IsName : List ℕ → Type 0
IsName name = AllByRecursion (λ b. in_name b ≡ true) name

-- ---- names

name_above : (b : ℕ) → in_name b ≡ true → above b ≡ true
name_above b e = grind (arith, nat_tests)

name_differs : (b : ℕ) → in_name b ≡ true → b ≢ 61
name_differs b e = λ same. absurd (grind (arith, nat_tests))

is_name : (xs : List ℕ) → IsName (take (prefix_len in_name xs) xs)
is_name [] = tt
is_name (b ∷ bs) = by_test (in_name b) refl (is_name bs)
  where
    by_test : (t : Bool) → in_name b ≡ t → IsName (take (prefix_len in_name bs) bs) → IsName (take (cond t (1 + prefix_len in_name bs) 0) (b ∷ bs))
    by_test true e more = subst IsName (sym (take_more (prefix_len in_name bs) b bs)) (e, more)
    by_test false e more = tt

no_equals : (name : List ℕ) → IsName name → AllByRecursion (λ b. b ≢ 61) name
no_equals [] h = tt
no_equals (b ∷ bs) h = (name_differs b h.0, no_equals bs h.1)

-- a name, a `=` and what follows it, up to the end of the word
word_ends : (name rest : List ℕ) → IsName name → prefix_len above (name ++ 61 ∷ rest) ≡ length name + (1 + prefix_len above rest)
word_ends [] rest h = omega arith
word_ends (b ∷ bs) rest h = rw (name_above b h.0) (omega (arith, word_ends bs rest h.1))

name_begins : (name rest : List ℕ) → highest_rank (name ++ 61 ∷ rest) ≡ 0 → IsName name → BeginsWord (name ++ 61 ∷ rest)
name_begins [] rest bare h = refl
name_begins (b ∷ bs) rest bare h = word_byte b (omega (arith, bare)) (name_above b h.0)

module _ (name rest : List ℕ) (bare : highest_rank (name ++ 61 ∷ rest) ≡ 0) (is : IsName name) where
  abbrev value : List ℕ
  value = take (prefix_len above rest) rest

  word_is : take (prefix_len above (name ++ 61 ∷ rest)) (name ++ 61 ∷ rest) ≡ name ++ 61 ∷ value
  word_is =
      ap (λ (k : ℕ). take k (name ++ 61 ∷ rest)) (word_ends name rest is)
      ∙ (take-append-add name (61 ∷ rest) (1 + prefix_len above rest)
      ∙ ap (λ (w : List ℕ). name ++ w) (take_more (prefix_len above rest) 61 rest))

  left_is : drop (prefix_len above (name ++ 61 ∷ rest)) (name ++ 61 ∷ rest) ≡ drop (prefix_len above rest) rest
  left_is =
      ap (λ (k : ℕ). drop k (name ++ 61 ∷ rest)) (word_ends name rest is)
      ∙ (drop-append-add name (61 ∷ rest) (1 + prefix_len above rest)
      ∙ drop_more (prefix_len above rest) 61 rest)

  pair_cut : tokens_of (name ++ 61 ∷ rest) ≡ behind (Word (name ++ 61 ∷ value) ∷ []) (tokens_of (drop (prefix_len above rest) rest))
  pair_cut =
      first_word (name ++ 61 ∷ rest) bare (name_begins name rest bare is)
      ∙ (ap (λ (w : List ℕ). behind (Word w ∷ []) (tokens_of (drop (prefix_len above (name ++ 61 ∷ rest)) (name ++ 61 ∷ rest)))) word_is
      ∙ ap (λ (xs : List ℕ). behind (Word (name ++ 61 ∷ value) ∷ []) (tokens_of xs)) left_is)

-- ---- one pair more

pairs_behind : (word : List ℕ) (pair : Pair) (rest : Option (List Token)) → pair_of word ≡ Some pair
    → option_and_then pairs_of (behind (Word word ∷ []) rest) ≡ option_map (λ more. pair ∷ more) (option_and_then pairs_of rest)
unfolding pairs_of
pairs_behind word pair None is = refl
pairs_behind word pair (Some tokens) is = rw is refl

no_pairs_behind : (word : List ℕ) (rest : Option (List Token)) → pair_of word ≡ None → option_and_then pairs_of (behind (Word word ∷ []) rest) ≡ None
unfolding pairs_of
no_pairs_behind word None is = refl
no_pairs_behind word (Some tokens) is = rw is refl

-- the blank that follows a word
past_blank : (rest : List ℕ) → highest_rank rest ≡ 0 → tokens_of (drop (prefix_len above rest) rest) ≡ tokens_of (drop 1 (drop (prefix_len above rest) rest))
past_blank rest bare = by_rest (drop (prefix_len above rest) rest) refl
  where
    by_rest : (xs : List ℕ) → drop (prefix_len above rest) rest ≡ xs → tokens_of xs ≡ tokens_of (drop 1 xs)
    by_rest [] e = refl
    by_rest (b ∷ bs) e = blank_skipped b bs (stops rest bare b bs e).0

after_bare : (k : ℕ) (xs : List ℕ) → highest_rank xs ≡ 0 → highest_rank (drop k xs) ≡ 0
after_bare k xs bare = omega (arith, bare, later_le k 0 xs (omega arith))

rest_bare : (name rest : List ℕ) → highest_rank (name ++ 61 ∷ rest) ≡ 0 → highest_rank rest ≡ 0
rest_bare [] rest bare = omega (arith, bare)
rest_bare (b ∷ bs) rest bare = rest_bare bs rest (omega (arith, bare))

one_pair : (name rest : List ℕ) → highest_rank (name ++ 61 ∷ rest) ≡ 0 → IsName name
    → pairs_in (name ++ 61 ∷ rest)
    ≡ option_map (λ more. record { name = name; value = take (prefix_len above rest) rest } ∷ more) (pairs_in (drop 1 (drop (prefix_len above rest) rest)))
one_pair name rest bare is =
    let value = take (prefix_len above rest) rest in
    let pair : Pair = record { name = name; value = value } in
    ap (option_and_then pairs_of) (pair_cut name rest bare is)
    ∙ (pairs_behind (name ++ 61 ∷ value) pair (tokens_of (drop (prefix_len above rest) rest)) (pair_read pair (no_equals name is))
    ∙ ap (λ (o : Option (List Token)). option_map (λ more. pair ∷ more) (option_and_then pairs_of o)) (past_blank rest (rest_bare name rest bare)))

-- ---- a pair as it is cut

module _ (n m : ℕ) (line name back rest value left : List ℕ) (bare : highest_rank line ≡ 0)
    (named : n ≡ prefix_len (λ b. nat_lt 32 b && not (b == 61)) line) (front : name ≡ take n line) (behind_it : back ≡ drop n line) (equals : back ≡ 61 ∷ rest)
    (ended : m ≡ prefix_len (λ b. nat_lt 32 b) rest) (valued : value ≡ take m rest) (over : left ≡ drop m rest) where
  whole : line ≡ name ++ 61 ∷ rest
  whole =
      sym (take-append-drop n line)
      ∙ (ap (λ (xs : List ℕ). xs ++ drop n line) (sym front) ∙ ap (λ (xs : List ℕ). name ++ xs) (sym behind_it ∙ equals))

  is : IsName name
  is = subst IsName (sym (front ∙ ap (λ (k : ℕ). take k line) named)) (is_name line)

  all_bare : highest_rank (name ++ 61 ∷ rest) ≡ 0
  all_bare = subst (λ (xs : List ℕ). highest_rank xs ≡ 0) whole bare

  value_is : take (prefix_len above rest) rest ≡ value
  value_is = ap (λ (k : ℕ). take k rest) (sym ended) ∙ sym valued

  over_is : drop (prefix_len above rest) rest ≡ left
  over_is = ap (λ (k : ℕ). drop k rest) (sym ended) ∙ sym over

  pub pair_taken : pairs_in line ≡ option_map (λ more. record { name = name; value = value } ∷ more) (pairs_in (drop 1 left))
  pair_taken =
      ap pairs_in whole
      ∙ (one_pair name rest all_bare is
      ∙ (ap (λ (v : List ℕ). option_map (λ more. record { name = name; value = v } ∷ more) (pairs_in (drop 1 (drop (prefix_len above rest) rest)))) value_is
      ∙ ap (λ (xs : List ℕ). option_map (λ (more : List Pair). record { name = name; value = value } ∷ more) (pairs_in (drop 1 xs))) over_is))

  pub pair_bare : highest_rank (drop 1 left) ≡ 0
  pair_bare = after_bare 1 left (subst (λ (xs : List ℕ). highest_rank xs ≡ 0) over_is (after_bare (prefix_len above rest) rest (rest_bare name rest all_bare)))

  pub pair_shorter : length left < length line
  pair_shorter =
      let a = ap length whole in
      let b = ap length over in
      omega (arith, a, b, length-append name (61 ∷ rest), length-drop m rest)

  pub pair_spaced : is_spaced true line ≡ true → left ≢ [] → is_spaced true (drop 1 left) ≡ true
  pair_spaced e some = by_left left refl some
    where
      at : drop (prefix_len above line) line ≡ left
      at = ap (λ (xs : List ℕ). drop (prefix_len above xs) xs) whole ∙ (left_is name rest all_bare is ∙ over_is)

      by_left : (xs : List ℕ) → left ≡ xs → xs ≢ [] → is_spaced true (drop 1 xs) ≡ true
      by_left [] f some = absurd (some refl)
      by_left (b ∷ bs) f some = spaced_after line bare e b bs (at ∙ f)

-- ---- a word that is no pair

not_above : (b : ℕ) → in_name b ≡ false → b ≢ 61 → above b ≡ false
not_above b e f = grind (arith, nat_tests)

same_end : (xs : List ℕ) → ((rest : List ℕ) → drop (prefix_len in_name xs) xs ≢ 61 ∷ rest) → prefix_len above xs ≡ prefix_len in_name xs
same_end [] other = refl
same_end (b ∷ bs) other = by_test (in_name b) refl other (λ apart. same_end bs apart)
  where
    by_test : (t : Bool) → in_name b ≡ t → ((rest : List ℕ) → drop (cond t (1 + prefix_len in_name bs) 0) (b ∷ bs) ≢ 61 ∷ rest)
        → (((rest : List ℕ) → drop (prefix_len in_name bs) bs ≢ 61 ∷ rest) → prefix_len above bs ≡ prefix_len in_name bs)
        → cond (above b) (1 + prefix_len above bs) 0 ≡ cond t (1 + prefix_len in_name bs) 0
    by_test true e other more =
        rw (name_above b e) (ap (λ (k : ℕ). 1 + k) (more (λ rest f. other rest (drop_more (prefix_len in_name bs) b bs ∙ f))))
    by_test false e other more = rw (not_above b e (λ f. other bs (ap (λ (x : ℕ). x ∷ bs) f))) refl

no_pair : (word : List ℕ) → IsName word → pair_of word ≡ None
no_pair word is = by_option (pair_of word) refl
  where
    apart : (name value : List ℕ) → AllByRecursion (λ b. b ≢ 61) (name ++ 61 ∷ value) → ⊥
    apart [] after h = h.0 refl
    apart (b ∷ bs) after h = apart bs after h.1

    by_option : (o : Option Pair) → pair_of word ≡ o → o ≡ None
    by_option None e = refl
    by_option (Some pair) e = absurd (apart pair.name pair.value (subst (λ (xs : List ℕ). AllByRecursion (λ b. b ≢ 61) xs) (pair_found word pair e).0 (no_equals word is)))

pub no_pair_taken : (n : ℕ) (line back : List ℕ) → highest_rank line ≡ 0 → n ≡ prefix_len (λ b. nat_lt 32 b && not (b == 61)) line → back ≡ drop n line
    → ((rest : List ℕ) → back ≢ 61 ∷ rest) → is_spaced true line ≡ true → pairs_in line ≡ None
no_pair_taken n line back bare named behind_it other spaced =
    let left : back ≡ drop (prefix_len in_name line) line = behind_it ∙ ap (λ (k : ℕ). drop k line) named in
    let same : prefix_len above line ≡ prefix_len in_name line = same_end line (λ rest f. other rest (left ∙ f)) in
    let word : IsName (take (prefix_len above line) line) = subst (λ (k : ℕ). IsName (take k line)) (sym same) (is_name line) in
    ap (option_and_then pairs_of) (first_word line bare (some_word line bare spaced))
    ∙ no_pairs_behind (take (prefix_len above line) line) (tokens_of (drop (prefix_len above line) line)) (no_pair (take (prefix_len above line) line) word)

-- ---- pair after pair

-- what follows the first byte, as the code takes it
pub tail_is : (xs : List ℕ) → take (length xs - 1) (drop 1 xs) ≡ drop 1 xs
tail_is xs = take_all (length xs - 1) (drop 1 xs) (omega (arith, length-drop 1 xs))
