-- The pieces of bytes that newlines end, and the last one, which none ends.
use Rattle.std.proofs.Common.{◌≡◌, ℕ, ◌+◌, ◌<◌, ◌≤◌, Bool, true, false, cond, nat_lt, List, [], ◌∷◌, ◌++◌, length, take, drop, Some, None, refl, sym, ap, ◌∙◌, arith}
use Rattle.std.proofs.lemmas.Bool.Decides.{nat_tests}
use Rattle.std.proofs.lemmas.List.Elements.{All-from_get_or}
use Rattle.std.proofs.lemmas.List.Folds.{list_any_at, list_any_none}
use Rattle.std.proofs.lemmas.List.Quantifiers.{position-Some}
use Rattle.std.proofs.lemmas.List.Splits.{length-slice_split, slice_split-cons_no, slice_split_first, slice_split_none}
use Rattle.std.proofs.lemmas.List.Sums.{fails_before_first}
use Rattle.std.specs.List.{All, onto_first, position, position_or_len}
use Rattle.mount_replies.specs.Lines.{has_newline, is_newline, last_piece, pieces_of}

-- those that have ended
abbrev pub ended : List (List ℕ) → List (List ℕ)
ended [] = []
ended (line ∷ []) = []
ended (line ∷ next ∷ more) = line ∷ ended (next ∷ more)

-- there is always a last one
pub some-piece : (bytes : List ℕ) → 0 < length (pieces_of bytes)
some-piece bytes = omega (arith, length-slice_split is_newline bytes)

-- those of bytes with others after them, where one more byte comes before all
one-more : (x : ℕ) (t : Bool) (parts all : List (List ℕ)) (ys : List ℕ) → is_newline x ≡ t → 0 < length parts
    → all ≡ ended parts ++ pieces_of (last_piece parts ++ ys)
    → cond t ([] ∷ all) (onto_first x all)
    ≡ ended (cond t ([] ∷ parts) (onto_first x parts)) ++ pieces_of (last_piece (cond t ([] ∷ parts) (onto_first x parts)) ++ ys)
one-more x t [] all ys is some before = absurd (omega arith)
one-more x true (part ∷ parts) all ys is some before = ap (λ (l : List (List ℕ)). [] ∷ l) before
one-more x false (part ∷ []) all ys is some before = ap (onto_first x) before ∙ sym (slice_split-cons_no is_newline x (part ++ ys) is)
one-more x false (part ∷ next ∷ more) all ys is some before = ap (onto_first x) before

-- bytes that are cut have the same pieces, but that the last one of the first bytes goes on in the others
pub pieces-of-two : (xs ys : List ℕ) → pieces_of (xs ++ ys) ≡ ended (pieces_of xs) ++ pieces_of (last_piece (pieces_of xs) ++ ys)
pieces-of-two [] ys = refl
pieces-of-two (x ∷ xs) ys = one-more x (is_newline x) (pieces_of xs) (pieces_of (xs ++ ys)) ys refl (some-piece xs) (pieces-of-two xs ys)

pub ended-of-two : (ps qs : List (List ℕ)) → 0 < length qs → ended (ps ++ qs) ≡ ps ++ ended qs
ended-of-two [] qs some = refl
ended-of-two (p ∷ []) [] some = absurd (omega arith)
ended-of-two (p ∷ []) (q ∷ qs) some = refl
ended-of-two (p ∷ next ∷ ps) qs some = ap (λ (l : List (List ℕ)). p ∷ l) (ended-of-two (next ∷ ps) qs some)

pub last-of-two : (ps qs : List (List ℕ)) → 0 < length qs → last_piece (ps ++ qs) ≡ last_piece qs
last-of-two [] qs some = refl
last-of-two (p ∷ []) [] some = absurd (omega arith)
last-of-two (p ∷ []) (q ∷ qs) some = refl
last-of-two (p ∷ next ∷ ps) qs some = last-of-two (next ∷ ps) qs some

-- ---- the first newline

-- where one is, the first piece ends there
pub found : (bytes : List ℕ) (at : ℕ) → Some at ≡ position is_newline bytes
    → (at < length bytes) × (pieces_of bytes ≡ take at bytes ∷ pieces_of (drop (at + 1) bytes))
found bytes at is = by (nat_lt (position_or_len is_newline bytes) (length bytes)) refl is
  where
    by : (t : Bool) → nat_lt (position_or_len is_newline bytes) (length bytes) ≡ t → Some at ≡ cond t (Some (position_or_len is_newline bytes)) None
        → (at < length bytes) × (pieces_of bytes ≡ take at bytes ∷ pieces_of (drop (at + 1) bytes))
    by true less h =
        let same : at ≡ position_or_len is_newline bytes = cc in
        let within : position_or_len is_newline bytes < length bytes = grind (arith, nat_tests) in
        rw same (within, slice_split_first is_newline bytes 0 within)
    by false less h = absurd (cc)

no-newlines : (bytes : List ℕ) → None ≡ position is_newline bytes → All (λ (b : ℕ). is_newline b ≡ false) bytes
no-newlines bytes is = by (nat_lt (position_or_len is_newline bytes) (length bytes)) refl is
  where
    by : (t : Bool) → nat_lt (position_or_len is_newline bytes) (length bytes) ≡ t → None ≡ cond t (Some (position_or_len is_newline bytes)) None
        → All (λ (b : ℕ). is_newline b ≡ false) bytes
    by true less h = absurd (cc)
    by false less h =
        let beyond : length bytes ≤ position_or_len is_newline bytes = grind (arith, nat_tests) in
        All-from_get_or (λ (b : ℕ). is_newline b ≡ false) bytes 0 (λ k within. fails_before_first is_newline bytes k 0 (omega arith))

-- where none is, all is one piece
pub none-found : (bytes : List ℕ) → None ≡ position is_newline bytes → pieces_of bytes ≡ bytes ∷ []
none-found bytes is = slice_split_none is_newline bytes (no-newlines bytes is)

pub has-none : (bytes : List ℕ) → None ≡ position is_newline bytes → has_newline bytes ≡ false
has-none bytes is = list_any_none is_newline bytes (no-newlines bytes is)

pub has-one : (bytes : List ℕ) (at : ℕ) → Some at ≡ position is_newline bytes → has_newline bytes ≡ true
has-one bytes at is =
    let there = position-Some is_newline bytes at 0 (sym is) in list_any_at is_newline bytes at 0 there.0 there.1
