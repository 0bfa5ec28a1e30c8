-- Where a word ends, by the bits that a block gives for the bytes at which one does.
use Rattle.std.proofs.Common.{◌≡◌, ◌≢◌, ℕ, ◌+◌, ◌*◌, ◌<◌, ◌≤◌, Bool, true, false, not, ◌&&◌, ◌||◌, ◌==◌, nat_lt, cond, eqb, leb, List, [], ◌∷◌}
use Rattle.std.proofs.Common.{suc, map, length, get_or, drop, drop-cons, refl, sym, ap, ap₂, ◌∙◌, arith}
use Rattle.std.proofs.lemmas.Bool.{eq-eqb, ne_eqb}
use Rattle.std.proofs.lemmas.Bool.Decides.{nat_tests}
use Rattle.std.proofs.lemmas.List.{drop_all}
use Rattle.std.proofs.lemmas.List.Folds.{prefix_len-append}
use Rattle.std.proofs.lemmas.List.Sums.{prefix_len-le-length}
use Rattle.std.proofs.lemmas.Simd.{chunk-drop, length-chunk, leading_from_mask_l, trailing_mask_l}
use Rattle.std.specs.List.{prefix_len}
use lib.Bits.{bit_or}
use lib.Count.{count_trailing_zeros}
use lib.Lanes.{chunk, mask_l, top}
use Rattle.trace_script.specs.private.Bytes.{is_stop}

-- what the comparisons leave in a lane
abbrev pub same : ℕ → ℕ → ℕ
same a b = cond (eqb a b) 255 0

abbrev pub at_most : ℕ → ℕ → ℕ
at_most a b = cond (leb a b) 255 0

pub either_bit : (x y : Bool) → top 7 (bit_or (cond x 255 0) (cond y 255 0)) ≡ (x || y)
either_bit true true = refl
either_bit true false = refl
either_bit false true = refl
either_bit false false = refl

abbrev pub goes_on : ℕ → ℕ → Bool
goes_on end b = not (is_stop end b)

same_run : (p q : ℕ → Bool) → ((b : ℕ) → p b ≡ q b) → (bytes : List ℕ) → prefix_len p bytes ≡ prefix_len q bytes
same_run p q same [] = refl
same_run p q same (b ∷ bs) = ap₂ (λ t n. cond t (1 + n) 0) (same b) (same_run p q same bs)

pub word_run : (text : List ℕ) → prefix_len (goes_on 32) text ≡ prefix_len (λ b. nat_lt 32 b) text
word_run = same_run _ _ (λ b. grind (arith, nat_tests))

pub name_run : (text : List ℕ) → prefix_len (goes_on 61) text ≡ prefix_len (λ b. nat_lt 32 b && not (b == 61)) text
name_run = same_run _ _ (λ b. grind (arith, nat_tests))

none_fails : (b : Bool) (n l m : ℕ) → n ≤ l → cond (not b) (1 + n) 0 ≡ 1 + l → (n ≡ l → m ≡ 0) → ◌≡◌ {A = ℕ} (cond b 1 0 + 2 * m) 0
none_fails true n l m le e ih = let no : ⊥ = omega arith in absurd no
none_fails false n l m le e ih = let z = ih (omega arith) in omega arith

all_pass : (p : ℕ → Bool) (xs : List ℕ) → prefix_len (λ x. not (p x)) xs ≡ length xs → mask_l (map p xs) ≡ 0
all_pass p [] e = refl
all_pass p (x ∷ xs) e = none_fails (p x) _ (length xs) _ (prefix_len-le-length (λ y. not (p y)) xs) (omega arith) (all_pass p xs)

cut : (q : ℕ → Bool) (d : List ℕ) (i n : ℕ)
    → prefix_len q (drop i d) ≡ cond (eqb (prefix_len q (chunk i n d)) (length (chunk i n d)))
    (length (chunk i n d) + prefix_len q (drop (i + n) d))
    (prefix_len q (chunk i n d))
cut q d i n = ap (prefix_len q) (chunk-drop i n d) ∙ prefix_len-append q (chunk i n d) (drop (i + n) d)

-- past a block of which no byte passes a test
pub past_block : (p : ℕ → Bool) (d : List ℕ) (i n : ℕ) → i + n ≤ length d
    → mask_l (map p (chunk i n d)) ≡ 0 → prefix_len (λ b. not (p b)) (drop i d) ≡ n + prefix_len (λ b. not (p b)) (drop (i + n) d)
past_block p d i n room none =
    let q : ℕ → Bool = λ b. not (p b) in
    let c = chunk i n d in
    let whole : eqb (prefix_len q c) (length c) ≡ true = eq-eqb _ _ (leading_from_mask_l p c none) in
    cut q d i n ∙ ap (λ b. cond b (length c + prefix_len q (drop (i + n) d)) (prefix_len q c)) whole
    ∙ ap (λ k. k + prefix_len q (drop (i + n) d)) (length-chunk i n d room)

-- a block of which a byte does
pub in_block : (p : ℕ → Bool) (d : List ℕ) (i n : ℕ) → i + n ≤ length d → n ≤ 64 → 0 < mask_l (map p (chunk i n d))
    → prefix_len (λ b. not (p b)) (drop i d) ≡ count_trailing_zeros 64 (mask_l (map p (chunk i n d)))
in_block p d i n room short some =
    let q : ℕ → Bool = λ b. not (p b) in
    let c = chunk i n d in
    let ends : prefix_len q c ≢ length c = λ (e : prefix_len q c ≡ length c). omega (arith, all_pass p c e) in
    cut q d i n ∙ ap (λ b. cond b (length c + prefix_len q (drop (i + n) d)) (prefix_len q c)) (ne_eqb _ _ ends)
    ∙ sym (trailing_mask_l p 64 c (omega (arith, length-chunk i n d room)) some)

-- past a block in which no word ends
pub run_through : (end : ℕ) (d : List ℕ) (i n : ℕ) → i + n ≤ length d
    → mask_l (map (is_stop end) (chunk i n d)) ≡ 0 → prefix_len (goes_on end) (drop i d) ≡ n + prefix_len (goes_on end) (drop (i + n) d)
run_through end = past_block (is_stop end)

-- a block in which a word ends
pub run_stops : (end : ℕ) (d : List ℕ) (i n : ℕ) → i + n ≤ length d → n ≤ 64 → 0 < mask_l (map (is_stop end) (chunk i n d))
    → prefix_len (goes_on end) (drop i d) ≡ count_trailing_zeros 64 (mask_l (map (is_stop end) (chunk i n d)))
run_stops end = in_block (is_stop end)

-- ---- byte by byte

goes_byte : (end b : ℕ) → 32 < b → b ≢ end → goes_on end b ≡ true
goes_byte end b above other = grind (arith, nat_tests)

low_byte : (end b : ℕ) → b ≤ 32 → goes_on end b ≡ false
low_byte end b low = grind (arith, nat_tests)

end_byte : (end b : ℕ) → b ≡ end → goes_on end b ≡ false
end_byte end b same = grind (arith, nat_tests)

at_byte : (end at : ℕ) (text : List ℕ) → at < length text
    → prefix_len (goes_on end) (drop at text) ≡ cond (goes_on end (get_or text at 0)) (1 + prefix_len (goes_on end) (drop (at + 1) text)) 0
at_byte end at text h =
    let one : suc at ≡ at + 1 = omega arith in
    ap (prefix_len (goes_on end)) (drop-cons text at 0 h)
    ∙ ap (λ k. cond (goes_on end (get_or text at 0)) (1 + prefix_len (goes_on end) (drop k text)) 0) one

-- the word goes on at this byte
pub run_more : (end at : ℕ) (text : List ℕ) → at < length text → 32 < get_or text at 0 → get_or text at 0 ≢ end
    → prefix_len (goes_on end) (drop at text) ≡ 1 + prefix_len (goes_on end) (drop (at + 1) text)
run_more end at text h above other = rw (at_byte end at text h, goes_byte end (get_or text at 0) above other) refl

-- it ends there
pub run_low : (end at : ℕ) (text : List ℕ) → at < length text → get_or text at 0 ≤ 32 → prefix_len (goes_on end) (drop at text) ≡ 0
run_low end at text h low = rw (at_byte end at text h, low_byte end (get_or text at 0) low) refl

pub run_end : (end at : ℕ) (text : List ℕ) → at < length text → get_or text at 0 ≡ end → prefix_len (goes_on end) (drop at text) ≡ 0
run_end end at text h same = rw (at_byte end at text h, end_byte end (get_or text at 0) same) refl

-- or with the text
pub run_out : (end at : ℕ) (text : List ℕ) → length text ≤ at → prefix_len (goes_on end) (drop at text) ≡ 0
run_out end at text h = ap (prefix_len (goes_on end)) (drop_all at text h)
