-- Rows of marks as the program moves them.
use Rattle.std.proofs.Common.{◌≡◌, ℕ, zero, suc, ◌+◌, ◌-◌, ◌<◌, ◌≤◌, Bool, true, false, ◌||◌, ◌&&◌, List, [], ◌∷◌, ◌++◌, length, length-drop, map, take, drop, replicate, get_or, refl, sym, ap, ◌∙◌, add-one, arith}
use Rattle.std.proofs.Math.ListN.{set}
use Rattle.trace_filter.specs.declared.glob.ReadElement as pieces
use Rattle.trace_filter.specs.Globs.{Class, is_in_class, parts_from, part_of}
use Rattle.trace_filter.specs.Marks.{spread, shift, advance, advance_all, mark_at, first_row}
use Rattle.trace_filter.specs.private.SeenGlobs.{glob_part_of, IsPartPiece}

pub spread_one : (row : List Bool) (i : ℕ) (seen d : Bool) → i < length row
    → take (suc i) (set row i (seen || get_or row i d)) ++ spread (seen || get_or row i d) (drop (suc i) (set row i (seen || get_or row i d))) ≡ take i row ++ spread seen (drop i row)
spread_one [] i seen d h = absurd (omega arith)
spread_one (b ∷ row) zero seen d h = refl
spread_one (b ∷ row) (suc i) seen d h =
    let less : i < length row = omega arith in
    ap (λ marks. b ∷ marks) (spread_one row i seen d less)

pub shift_one : (class : Class) (row : List Bool) (text : List ℕ) (i : ℕ) (carry d : Bool) (e : ℕ) → i < length row → i < length text
    → take (suc i) (set row i carry) ++ shift class (get_or row i d && is_in_class class (get_or text i e)) (drop (suc i) (set row i carry)) (drop (suc i) text) ≡ take i row ++ shift class carry (drop i row) (drop i text)
shift_one class [] text i carry d e h k = absurd (omega arith)
shift_one class (b ∷ row) [] i carry d e h k = absurd (omega arith)
shift_one class (b ∷ row) (t ∷ text) zero carry d e h k = refl
shift_one class (b ∷ row) (t ∷ text) (suc i) carry d e h k =
    let less : i < length row = omega arith in
    let fewer : i < length text = omega arith in
    ap (λ marks. b ∷ marks) (shift_one class row text i carry d e less fewer)

pub shift_end : (class : Class) (row : List Bool) (text : List ℕ) (carry : Bool) → length row ≡ length text + 1
    → set row (length text) carry ≡ take (length text) row ++ shift class carry (drop (length text) row) (drop (length text) text)
shift_end class [] text carry h = absurd (omega arith)
shift_end class (b ∷ []) [] carry h = refl
shift_end class (b ∷ c ∷ row) [] carry h = absurd (omega arith)
shift_end class (b ∷ row) (t ∷ text) carry h =
    let less : length row ≡ length text + 1 = omega arith in
    ap (λ marks. b ∷ marks) (shift_end class row text carry less)

pub mark_at-get : (n : ℕ) (row : List Bool) (d : Bool) → n < length row → mark_at n row ≡ get_or row n d
mark_at-get n [] d h = absurd (omega arith)
mark_at-get zero (b ∷ row) d h = refl
mark_at-get (suc n) (b ∷ row) d h =
    let less : n < length row = omega arith in
    mark_at-get n row d less

no_marks : (text : List ℕ) (k : ℕ) → length text ≤ k → take (length text) (replicate k false) ≡ map (λ b. false) text
no_marks [] k h = refl
no_marks (t ∷ text) zero h = absurd (omega arith)
no_marks (t ∷ text) (suc k) h =
    let less : length text ≤ k = omega arith in
    ap (λ marks. false ∷ marks) (no_marks text k less)

pub first_row_is : (text : List ℕ) (k : ℕ) → length text < k → set (take (length text + 1) (replicate k false)) 0 true ≡ first_row text
first_row_is text zero h = absurd (omega arith)
first_row_is text (suc k) h =
    let less : length text ≤ k = omega arith in
    rw add-one (ap (λ marks. true ∷ marks) (no_marks text k less))

-- to skip bytes is to drop them
skipped : (n : ℕ) (bs : List ℕ) → parts_from n bs ≡ parts_from 0 (drop n bs)
skipped zero bs = refl
skipped (suc n) [] = refl
skipped (suc n) (b ∷ bs) = skipped n bs

pub part_step : (rest others : List ℕ) (first : ℕ) (row moved : List Bool) (text : List ℕ) (found : pieces.ReadElement) → rest ≡ first ∷ others → IsPartPiece (part_of first others) found (length others)
    → moved ≡ advance (glob_part_of found.part) row text → advance_all (parts_from 0 (drop found.more others)) moved text ≡ advance_all (parts_from 0 rest) row text
part_step rest others first row moved text found cut is is_moved =
    ap (λ m. advance_all (parts_from 0 (drop found.more others)) m text) is_moved
    ∙ ap (λ p. advance_all (parts_from 0 (drop found.more others)) (advance p row text) text) is.part
    ∙ ap (λ p. advance_all p (advance (part_of first others).part row text) text) (sym (skipped found.more others) ∙ ap (λ n. parts_from n others) is.more)
    ∙ ap (λ bytes. advance_all (parts_from 0 bytes) row text) (sym cut)

take_all : (xs : List ℕ) → take (length xs) xs ≡ xs
take_all [] = refl
take_all (x ∷ xs) = ap (λ ys. x ∷ ys) (take_all xs)

-- what is left behind some bytes is all of it
pub take_rest : (k : ℕ) (xs : List ℕ) → take (length xs - k) (drop k xs) ≡ drop k xs
take_rest k xs = ap (λ n. take n (drop k xs)) (sym (length-drop k xs)) ∙ take_all (drop k xs)
