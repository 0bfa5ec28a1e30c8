-- The highest rank of a line's bytes, and what it says of them.
use Rattle.std.proofs.Common.{◌≡◌, ℕ, zero, suc, ◌+◌, ◌-◌, ◌<◌, ◌≤◌, max, Bool, true, false, ◌&&◌, if◌then◌else◌, List, [], ◌∷◌, length, take, drop, refl, ap, arith}
use Rattle.std.proofs.lemmas.List.{drop-drop, length-drop, take_all}
use Rattle.std.proofs.lemmas.Bool.Decides.{nat_tests}
use Rattle.std.specs.List.{list_all, list_any}
use Rattle.trace_script.specs.Lines.{is_line_byte}
use Rattle.trace_script.specs.Tokens.{is_quote}
use Rattle.trace_script.specs.private.Bytes.{rank, highest_rank}

-- ---- blocks

-- what follows a place has no higher rank than what follows an earlier one
pub later_le : (at last : ℕ) (line : List ℕ) → last ≤ at → highest_rank (drop at line) ≤ highest_rank (drop last line)
later_le zero zero line h = omega arith
later_le zero (suc last) line h = absurd (omega (arith, h))
later_le (suc at) zero [] h = omega arith
later_le (suc at) (suc last) [] h = omega arith
later_le (suc at) zero (b ∷ bs) h = omega (arith, later_le at zero bs (omega arith))
later_le (suc at) (suc last) (b ∷ bs) h = later_le at last bs (omega (arith, h))

pub split : (size : ℕ) (bytes : List ℕ) → highest_rank bytes ≡ max (highest_rank (take size bytes)) (highest_rank (drop size bytes))
split zero bytes = omega arith
split (suc size) [] = refl
split (suc size) (b ∷ bs) = omega (arith, split size bs)

-- the last block
pub last_block : (size : ℕ) (line : List ℕ) → highest_rank (take (length line - (length line - size)) (drop (length line - size) line)) ≡ highest_rank (drop (length line - size) line)
last_block size line =
    let last = length line - size in
    ap highest_rank (take_all (length line - last) (drop last line) (omega (arith, length-drop last line)))

-- one more block
pub next_block : (at size : ℕ) (line : List ℕ) → highest_rank (drop at line) ≡ max (highest_rank (take ((at + size) - at) (drop at line))) (highest_rank (drop (at + size) line))
next_block at size line =
    let n : (at + size) - at ≡ size = omega arith in
    let rest : highest_rank (drop size (drop at line)) ≡ highest_rank (drop (at + size) line) = ap highest_rank (drop-drop size at line) in
    let block : highest_rank (take ((at + size) - at) (drop at line)) ≡ highest_rank (take size (drop at line)) = ap (λ (k : ℕ). highest_rank (take k (drop at line))) n in
    omega (arith, split size (drop at line), rest, block)

-- ---- what a rank says

lawful_byte : (b : ℕ) → rank b < 3 → is_line_byte b ≡ true
lawful_byte b h = by_test (is_line_byte b) refl
  where
    by_test : (t : Bool) → is_line_byte b ≡ t → is_line_byte b ≡ true
    by_test true e = e
    by_test false e = absurd (omega (arith, h, ap {B = ℕ} (λ (t : Bool). if t then 0 else 3) e))

pub lawful : (line : List ℕ) → highest_rank line < 3 → list_all is_line_byte line ≡ true
lawful [] h = refl
lawful (b ∷ bs) h = rw (lawful_byte b (omega (arith, h)), lawful bs (omega (arith, h))) refl

quiet_byte : (b : ℕ) → rank b < 2 → is_quote b ≡ false
quiet_byte b h = by_test (is_quote b) refl
  where
    by_test : (t : Bool) → is_quote b ≡ t → is_quote b ≡ false
    by_test true e = absurd (omega (arith, h, ap {B = ℕ} (λ (t : Bool). if t then 2 else 0) e))
    by_test false e = e

pub unquoted : (line : List ℕ) → highest_rank line < 2 → list_any is_quote line ≡ false
unquoted [] h = refl
unquoted (b ∷ bs) h = rw (quiet_byte b (omega (arith, h)), unquoted bs (omega (arith, h))) refl

lawful_rank : (b : ℕ) → is_line_byte b ≡ true → rank b < 3
lawful_rank b e = grind (arith, nat_tests)

both_true : (x y : Bool) → (x && y) ≡ true → (x ≡ true) × (y ≡ true)
both_true true y e = (refl, e)
both_true false y e = absurd (cc)

low : (line : List ℕ) → list_all is_line_byte line ≡ true → highest_rank line < 3
low [] e = omega arith
low (b ∷ bs) e =
    let both = both_true (is_line_byte b) (list_all is_line_byte bs) e in
    omega (arith, lawful_rank b both.0, low bs both.1)

pub not_lawful : (line : List ℕ) → 3 ≤ highest_rank line → list_all is_line_byte line ≡ false
not_lawful line h = by_test (list_all is_line_byte line) refl
  where
    by_test : (t : Bool) → list_all is_line_byte line ≡ t → list_all is_line_byte line ≡ false
    by_test true e = absurd (omega (arith, h, low line e))
    by_test false e = e
