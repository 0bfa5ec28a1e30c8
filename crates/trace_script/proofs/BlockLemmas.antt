-- The bits that a block gives for its bytes of another rank than 0, and what they say of the line.
use Rattle.std.proofs.Common.{◌≡◌, ◌≢◌, ℕ, ◌+◌, ◌-◌, ◌*◌, ◌%◌, ◌^◌, ◌<◌, ◌≤◌, Bool, true, false, not, cond, eqb, ltb, List, [], ◌∷◌}
use Rattle.std.proofs.Common.{map, length, drop, Fits, w8, inl, inr, refl, sym, ap, ap₂, ◌∙◌, arith}
use Rattle.std.proofs.lemmas.Bool.{agree_below, agree_below_at, cases_eq, eq-eqb, eqb-true, ne_eqb}
use Rattle.std.proofs.lemmas.List.{drop-drop, length-drop, length-map, take_all}
use Rattle.std.proofs.lemmas.Simd.{mask_l-mod}
use lib.Lanes.{chunk, mask_l, top, Each1}
use Rattle.trace_script.specs.private.Bytes.{rank, highest_rank, is_rare}
use Rattle.trace_script.proofs.ByteLemmas.{later_le, split}

-- ---- lanes

-- what a comparison leaves in a lane
abbrev pub below : ℕ → ℕ → ℕ
below a b = cond (ltb a b) 255 0

each_byte : (f : ℕ → ℕ) (p : ℕ → Bool) → ((x : ℕ) → x < 256 → top 7 (f x) ≡ p x)
    → (v : List ℕ) → Each1 (Fits w8) v → map (top 7) (map f v) ≡ map p v
each_byte f p all [] fits = refl
each_byte f p all (x ∷ xs) fits = ap₂ (λ a b. a ∷ b) (all x fits.0.fits) (each_byte f p all xs fits.1)

-- a bit for each byte that passes a test
pub masked_at : (f : ℕ → ℕ) (p : ℕ → Bool) (v z : List ℕ) → length v ≤ 64 → Each1 (Fits w8) v → z ≡ map f v
    → ((x : ℕ) → x < 256 → top 7 (f x) ≡ p x) → mask_l (map (top 7) z) % 2 ^ 64 ≡ mask_l (map p v)
masked_at f p v z short fits e all =
    ap (λ l. mask_l l % 2 ^ 64) (ap (map (top 7)) e ∙ each_byte f p all v fits) ∙ mask_l-mod (map p v) 64 (omega (arith, length-map v p))

-- the same, where the test is tried at each of the 256
pub masked : (f : ℕ → ℕ) (p : ℕ → Bool) (v z : List ℕ) → length v ≤ 64 → Each1 (Fits w8) v → z ≡ map f v
    → agree_below (λ x. top 7 (f x)) p 256 ≡ true → mask_l (map (top 7) z) % 2 ^ 64 ≡ mask_l (map p v)
masked f p v z short fits e all = masked_at f p v z short fits e (λ x within. agree_below_at (λ y. top 7 (f y)) p 256 x all within)

-- ---- blocks of a line

none_rare : (b : ℕ) (rest : ℕ) → ◌≡◌ {A = ℕ} (cond (is_rare b) 1 0 + 2 * rest) 0 → (rank b ≡ 0) × (rest ≡ 0)
none_rare b rest h = by_test (eqb (rank b) 0) refl
  where
    by_test : (t : Bool) → eqb (rank b) 0 ≡ t → (rank b ≡ 0) × (rest ≡ 0)
    by_test true e = (eqb-true _ _ e, omega (arith, h))
    by_test false e = absurd (omega (arith, h, ap {B = ℕ} (λ (t : Bool). cond (not t) 1 0) e))

bare_block : (bytes : List ℕ) → mask_l (map is_rare bytes) ≡ 0 → highest_rank bytes ≡ 0
bare_block [] h = refl
bare_block (b ∷ bs) h =
    let both = none_rare b (mask_l (map is_rare bs)) h in
    omega (arith, both.0, bare_block bs both.1)

not_rare : (b : ℕ) → rank b ≡ 0 → ◌≡◌ {A = ℕ} (cond (is_rare b) 1 0) 0
not_rare b e = ap {B = ℕ} (λ (t : Bool). cond (not t) 1 0) (eq-eqb _ _ e)

rare_block : (bytes : List ℕ) → highest_rank bytes ≡ 0 → mask_l (map is_rare bytes) ≡ 0
rare_block [] h = refl
rare_block (b ∷ bs) h = omega (arith, not_rare b (omega (arith, h)), rare_block bs (omega (arith, h)))

-- past a block that has no rare byte
pub past_block : (at size : ℕ) (line : List ℕ) → mask_l (map is_rare (chunk at size line)) ≡ 0
    → highest_rank (drop at line) ≡ highest_rank (drop (at + size) line)
past_block at size line h =
    let rest : highest_rank (drop size (drop at line)) ≡ highest_rank (drop (at + size) line) = ap highest_rank (drop-drop size at line) in
    omega (arith, split size (drop at line), rest, bare_block (chunk at size line) h)

-- a block that has a rare byte
pub found_rare : (at size : ℕ) (line : List ℕ) → highest_rank line ≡ highest_rank (drop at line)
    → 0 < mask_l (map is_rare (chunk at size line)) → false ≡ eqb (highest_rank line) 0
found_rare at size line seen h =
    sym (ne_eqb _ _ (λ (e : highest_rank line ≡ 0).
    omega (arith, h, rare_block (chunk at size line) (omega (arith, e, seen, split size (drop at line))))))

-- the last block, of which all before has no rare byte
pub last_decides : (at size bits : ℕ) (line : List ℕ) → highest_rank line ≡ highest_rank (drop at line) → length line - size ≤ at
    → bits ≡ mask_l (map is_rare (chunk (length line - size) size line)) → eqb bits 0 ≡ eqb (highest_rank line) 0
last_decides at size bits line seen covered found =
    let last = length line - size in
    let block = chunk last size line in
    let whole : highest_rank block ≡ highest_rank (drop last line) =
    ap highest_rank (take_all size (drop last line) (omega (arith, length-drop last line))) in
    elim (cases_eq bits 0) [
      | inl none ↦
          let all : highest_rank line ≡ 0 =
          omega (arith, seen, later_le at last line covered, whole, bare_block block (omega (arith, none, found))) in
          eq-eqb _ _ none ∙ sym (eq-eqb _ _ all)
      | inr some ↦
          let not_all : highest_rank line ≢ 0 = λ (e : highest_rank line ≡ 0).
          omega (arith, some, found, rare_block block (omega (arith, e, whole, later_le last 0 line (omega arith)))) in
          ne_eqb _ _ some ∙ sym (ne_eqb _ _ not_all)
    ]
