-- Where the words of a short line end, by the bits of its bytes.
use Rattle.std.proofs.Common.{◌≡◌, ℕ, zero, suc, ◌+◌, ◌-◌, ◌*◌, ◌/◌, ◌^◌, ◌<◌, ◌≤◌, min, Bool, true, false, not, ◌&&◌, ◌==◌, nat_lt, cond, List, [], ◌∷◌, ◌++◌}
use Rattle.std.proofs.Common.{map, length, get_or, take, drop, inl, inr, refl, sym, ap, ◌∙◌, arith, length-append, length-drop, drop-cons}
use Rattle.std.proofs.lemmas.Bool.{cases_eq, eqb-true}
use Rattle.std.proofs.lemmas.Bool.Decides.{nat_tests}
use Rattle.std.proofs.lemmas.List.{drop-append-le, drop-drop, take-append-drop, take-take, drop-take, length-take-le}
use Rattle.std.proofs.lemmas.List.Sums.{prefix_len-le-length, prefix_len_stops}
use Rattle.std.proofs.lemmas.Nat.{shr-shr, shr_le}
use Rattle.std.proofs.lemmas.Simd.{leading_from_mask_l, trailing_mask_l}
use Rattle.std.specs.List.{prefix_len}
use Rattle.std.specs.Option.{option_map}
use lib.Count.{count_trailing_zeros, trailing_of_zero}
use lib.Lanes.{mask_l, top}
use Rattle.trace_format.specs.declared.pair.Pair.{Pair}
use Rattle.trace_script.specs.Tokens.{behind, tokens_of}
use Rattle.trace_script.specs.private.Bytes.{highest_rank, is_rare}
use Rattle.trace_script.specs.private.Emissions.{pairs_in}
use Rattle.trace_script.specs.private.Marks.{is_low, is_equals, AreBits}
use Rattle.trace_script.specs.declared.token.Token.TheVariants.{Word}
use Rattle.trace_script.proofs.BareLines.{word_cut}
use Rattle.trace_script.proofs.BarePairs.{pair_taken}
use Rattle.trace_script.proofs.ByteLemmas.{later_le}
use Rattle.trace_script.proofs.PrefixLemmas.{in_block}

abbrev above : ℕ → Bool
above b = nat_lt 32 b

abbrev not_equals : ℕ → Bool
not_equals b = not (is_equals b)

-- ---- a block

pub one_bit : (x : Bool) → top 7 (cond x 255 0) ≡ x
one_bit true = refl
one_bit false = refl

closed_rest : (len size : ℕ) (text : List ℕ) → len < size → len < length text → get_or text len 0 ≡ 10
    → take (size - len) (drop len text) ≡ 10 ∷ take (size - (len + 1)) (drop (len + 1) text)
closed_rest len size text less more newline =
    let m = size - (len + 1) in
    let n : size - len ≡ suc m = omega arith in
    let one : suc len ≡ len + 1 = omega arith in
    ap (λ (k : ℕ). take k (drop len text)) n ∙ ap (take (suc m)) (drop-cons text len 0 more)
    ∙ ap (λ (b : ℕ). b ∷ take m (drop (suc len) text)) newline ∙ ap (λ (k : ℕ). 10 ∷ take m (drop k text)) one

-- the bits of a block are those of what a string begins with, up to a newline
pub front_bits : (test : ℕ → Bool) (len size bits : ℕ) (text : List ℕ) → len < size → size ≤ 64 → size ≤ length text → get_or text len 0 ≡ 10
    → bits ≡ mask_l (map test (take size text)) → AreBits test (take len text) (10 ∷ take (size - (len + 1)) (drop (len + 1) text)) bits
front_bits test len size bits text less few fits newline are =
    let rest = take (size - len) (drop len text) in
    let n : len + (size - len) ≡ size = omega arith in
    let after = closed_rest len size text less (omega arith) newline in
    let whole : take len text ++ rest ≡ take size text =
    ap (λ (xs : List ℕ). take len text ++ xs) (sym (drop-take len (size - len) text) ∙ ap (λ (k : ℕ). drop len (take k text)) n)
    ∙ ap (λ (xs : List ℕ). xs ++ drop len (take size text)) (sym (take-take len size text (omega arith)))
    ∙ take-append-drop len (take size text) in
    let all = ap (λ (xs : List ℕ). take len text ++ xs) (sym after) ∙ whole in
    record {
      few = omega (arith, sym (length-append (take len text) (10 ∷ take (size - (len + 1)) (drop (len + 1) text))) ∙ ap length all, length-take-le size text fits);
      are = are ∙ ap (λ (xs : List ℕ). mask_l (map test xs)) (sym all);
    }

-- how far a bare line goes, if its end is in a block
pub run_in_block : (len size bits : ℕ) (text : List ℕ) → size ≤ 64 → size ≤ length text → bits ≡ mask_l (map is_rare (take size text))
    → len ≡ count_trailing_zeros 64 bits → len < size → len ≡ prefix_len (λ b. not (is_rare b)) text
run_in_block len size bits text few fits are counted less = elim (cases_eq bits 0) [
  | inl none ↦ absurd (omega (arith, less, few, counted, ap (count_trailing_zeros 64) none ∙ trailing_of_zero 64))
  | inr some ↦ counted ∙ ap (count_trailing_zeros 64) are ∙ sym (in_block is_rare text 0 size (omega arith) few (omega (arith, are, some)))
]

-- ---- the first bit

-- what a longer list begins with
within : (q : ℕ → Bool) (xs ys : List ℕ) → min (prefix_len q (xs ++ ys)) (length xs) ≡ prefix_len q xs
within q [] ys = omega arith
within q (x ∷ xs) ys = by_test (q x) (within q xs ys)
  where
    by_test : (t : Bool) → min (prefix_len q (xs ++ ys)) (length xs) ≡ prefix_len q xs
        → min (cond t (1 + prefix_len q (xs ++ ys)) 0) (length (x ∷ xs)) ≡ cond t (1 + prefix_len q xs) 0
    by_test true ih = omega arith
    by_test false ih = omega arith

pub first_bit : (test : ℕ → Bool) (line after : List ℕ) (bits : ℕ) → AreBits test line after bits
    → min (count_trailing_zeros 64 bits) (length line) ≡ prefix_len (λ b. not (test b)) line
first_bit test line after bits is =
    let all = line ++ after in
    let long = length-append line after in
    let front = within (λ b. not (test b)) line after in
    elim (cases_eq bits 0) [
      | inl none ↦
          let whole = leading_from_mask_l test all (sym is.are ∙ none) in
          let most = ap (count_trailing_zeros 64) none ∙ trailing_of_zero 64 in
          omega (arith, whole, most, long, front, is.few)
      | inr some ↦
          let found = ap (count_trailing_zeros 64) is.are ∙ trailing_mask_l test 64 all (omega (arith, long, is.few)) (omega (arith, is.are, some)) in
          omega (arith, found, front)
    ]

-- where what follows the line begins with a byte that passes the test
closed_run : (test : ℕ → Bool) (xs ys : List ℕ) (y : ℕ) → test y ≡ true → prefix_len (λ b. not (test b)) (xs ++ y ∷ ys) ≤ length xs
closed_run test [] ys y passes = rw passes (omega arith)
closed_run test (x ∷ xs) ys y passes = by_test (test x) (closed_run test xs ys y passes)
  where
    by_test : (t : Bool) → prefix_len (λ b. not (test b)) (xs ++ y ∷ ys) ≤ length xs
        → cond (not t) (1 + prefix_len (λ b. not (test b)) (xs ++ y ∷ ys)) 0 ≤ length (x ∷ xs)
    by_test true ih = omega arith
    by_test false ih = omega (arith, ih)

closed_bit : (test : ℕ → Bool) (line after : List ℕ) (bits end : ℕ) → AreBits test line (end ∷ after) bits → test end ≡ true
    → count_trailing_zeros 64 bits ≡ prefix_len (λ b. not (test b)) line
closed_bit test line after bits end is passes =
    let all = line ++ end ∷ after in
    let most = closed_run test line after end passes in
    let front = within (λ b. not (test b)) line (end ∷ after) in
    let long = length-append line (end ∷ after) in
    elim (cases_eq bits 0) [
      | inl none ↦ absurd (omega (arith, most, long, leading_from_mask_l test all (sym is.are ∙ none)))
      | inr some ↦
          let found = ap (count_trailing_zeros 64) is.are ∙ trailing_mask_l test 64 all (omega (arith, long, is.few)) (omega (arith, is.are, some)) in
          omega (arith, found, front, most)
    ]

not_above : (b : ℕ) → not (is_low b) ≡ nat_lt 32 b
not_above b = grind (arith, nat_tests)

same_run : (p q : ℕ → Bool) → ((b : ℕ) → p b ≡ q b) → (bytes : List ℕ) → prefix_len p bytes ≡ prefix_len q bytes
same_run p q same [] = refl
same_run p q same (b ∷ bs) = rw (same b, same_run p q same bs) refl

pub first_word_len : (line after : List ℕ) (bits : ℕ) → AreBits is_low line (10 ∷ after) bits
    → count_trailing_zeros 64 bits ≡ prefix_len (λ b. nat_lt 32 b) line
first_word_len line after bits is = closed_bit is_low line after bits 10 is refl ∙ same_run _ _ not_above line

pub word_within : (line : List ℕ) → prefix_len (λ b. nat_lt 32 b) line ≤ length line
word_within line = prefix_len-le-length (λ b. nat_lt 32 b) line

-- ---- what is left

halved : (x m : ℕ) → x ≤ 1 → (x + 2 * m) / 2 ≡ m
halved x m h = omega arith

bit_le : (b : Bool) → ◌≤◌ (cond b 1 0) 1
bit_le true = omega arith
bit_le false = omega arith

mask_drop : (test : ℕ → Bool) (k : ℕ) (xs : List ℕ) → mask_l (map test xs) / 2 ^ k ≡ mask_l (map test (drop k xs))
mask_drop test zero xs = omega arith
mask_drop test (suc k) [] = omega (arith, shr_le 0 (suc k))
mask_drop test (suc k) (x ∷ xs) =
    let one : suc k ≡ 1 + k = omega arith in
    ap (λ (n : ℕ). mask_l (map test (x ∷ xs)) / 2 ^ n) one
    ∙ sym (shr-shr (mask_l (map test (x ∷ xs))) 1 k)
    ∙ ap (λ (n : ℕ). n / 2 ^ k) (halved (cond (test x) 1 0) (mask_l (map test xs)) (bit_le (test x)))
    ∙ mask_drop test k xs

pub bits_after : (test : ℕ → Bool) (line after : List ℕ) (bits k : ℕ) → AreBits test line after bits → k ≤ length line → AreBits test (drop k line) after (bits / 2 ^ k)
bits_after test line after bits k is fits =
    record {
      few = omega (arith, length-drop k line, is.few);
      are = ap (λ (n : ℕ). n / 2 ^ k) is.are ∙ mask_drop test k (line ++ after)
          ∙ ap (λ (xs : List ℕ). mask_l (map test xs)) (drop-append-le k line after fits);
    }

pub bare_after : (k : ℕ) (line : List ℕ) → highest_rank line ≡ 0 → highest_rank (drop k line) ≡ 0
bare_after k line bare = omega (arith, bare, later_le k 0 line (omega arith))

-- ---- a word

some_bytes : (xs : List ℕ) → 0 < length xs → (length xs == 0) ≡ false
some_bytes xs some = grind (arith, nat_tests)

pub word_taken : (n : ℕ) (line word : List ℕ) → highest_rank line ≡ 0 → n ≡ prefix_len (λ b. nat_lt 32 b) line → word ≡ take n line → 0 < n → n < length line
    → tokens_of line ≡ behind (Word word ∷ []) (tokens_of (drop (n + 1) line))
word_taken n line word bare is front some more =
    word_cut n line word (drop n line) bare is front refl
    (some_bytes word (omega (arith, ap length front, length-take-le n line (omega arith))))
    (some_bytes (drop n line) (omega (arith, length-drop n line)))
    ∙ ap (λ (xs : List ℕ). behind (Word word ∷ []) (tokens_of xs)) (drop-drop 1 n line)

-- ---- a pair

both : (p q : ℕ → Bool) (xs : List ℕ) → prefix_len (λ b. p b && q b) xs ≡ min (prefix_len p xs) (prefix_len q xs)
both p q [] = omega arith
both p q (x ∷ xs) = by_tests (p x) (q x) (both p q xs)
  where
    by_tests : (s t : Bool) → prefix_len (λ b. p b && q b) xs ≡ min (prefix_len p xs) (prefix_len q xs)
        → cond (s && t) (1 + prefix_len (λ b. p b && q b) xs) 0 ≡ min (cond s (1 + prefix_len p xs) 0) (cond t (1 + prefix_len q xs) 0)
    by_tests true true ih = omega arith
    by_tests true false ih = omega arith
    by_tests false true ih = omega arith
    by_tests false false ih = omega arith

pub on_from : (p : ℕ → Bool) (k : ℕ) (xs : List ℕ) → k ≤ prefix_len p xs → prefix_len p xs ≡ k + prefix_len p (drop k xs)
on_from p zero xs h = omega arith
on_from p (suc k) [] h = absurd (omega (arith, h))
on_from p (suc k) (x ∷ xs) h = by_test (p x) (on_from p k xs) h
  where
    by_test : (t : Bool) → (k ≤ prefix_len p xs → prefix_len p xs ≡ k + prefix_len p (drop k xs))
        → suc k ≤ cond t (1 + prefix_len p xs) 0 → cond t (1 + prefix_len p xs) 0 ≡ suc k + prefix_len p (drop k xs)
    by_test true ih h = omega (arith, ih (omega arith))
    by_test false ih h = absurd (omega arith)

not_false : (b : Bool) → not b ≡ false → b ≡ true
not_false true e = refl
not_false false e = absurd cc

equals_there : (at : ℕ) (xs : List ℕ) → at ≡ prefix_len (λ b. not (is_equals b)) xs → at < length xs → drop at xs ≡ 61 ∷ drop (at + 1) xs
equals_there at xs is less =
    let stop = prefix_len_stops (λ b. not (is_equals b)) xs 0 (omega arith) in
    let here : get_or xs at 0 ≡ 61 =
    eqb-true (get_or xs at 0) 61 (not_false _ (ap (λ (k : ℕ). not (is_equals (get_or xs k 0))) is ∙ stop)) in
    let one : suc at ≡ at + 1 = omega arith in
    drop-cons xs at 0 less ∙ ap (λ (b : ℕ). b ∷ drop (suc at) xs) here ∙ ap (λ (k : ℕ). 61 ∷ drop k xs) one

pub pair_marked : (end at : ℕ) (line word name value : List ℕ) → highest_rank line ≡ 0 → end ≡ prefix_len (λ b. nat_lt 32 b) line
    → min at (length line) ≡ prefix_len (λ b. not (is_equals b)) line → at < end → word ≡ take end line → name ≡ take at word → value ≡ drop 1 (drop at word)
    → pairs_in line ≡ option_map (λ more. record { name = name; value = value } ∷ more) (pairs_in (drop (end + 1) line))
pair_marked end at line word name value bare ended found less cut named valued =
    let fits = prefix_len-le-length above line in
    let first : at ≡ prefix_len (λ b. not (is_equals b)) line = omega (arith, found, fits, ended) in
    let back : drop at line ≡ 61 ∷ drop (at + 1) line = equals_there at line first (omega (arith, fits, ended)) in
    let m = end - (at + 1) in
    let in_name : at ≡ prefix_len (λ b. nat_lt 32 b && not (b == 61)) line = omega (arith, both above not_equals line, first, ended) in
    let rest : m ≡ prefix_len above (drop (at + 1) line) = omega (arith, on_from above (at + 1) line (omega (arith, ended)), ended) in
    let front : name ≡ take at line = named ∙ ap (take at) cut ∙ take-take at end line (omega arith) in
    let n : at + 1 + m ≡ end = omega arith in
    let what : value ≡ take m (drop (at + 1) line) =
    valued ∙ ap (λ (xs : List ℕ). drop 1 (drop at xs)) cut ∙ drop-drop 1 at (take end line)
    ∙ ap (λ (k : ℕ). drop (at + 1) (take k line)) (sym n) ∙ drop-take (at + 1) m line in
    pair_taken at m line name (drop at line) (drop (at + 1) line) value (drop m (drop (at + 1) line)) bare in_name front refl back rest what refl
    ∙ ap (λ (xs : List ℕ). option_map (λ (more : List Pair). record { name = name; value = value } ∷ more) (pairs_in xs))
    (drop-drop 1 m (drop (at + 1) line) ∙ drop-drop (m + 1) (at + 1) line ∙ ap (λ (k : ℕ). drop k line) (omega arith))
