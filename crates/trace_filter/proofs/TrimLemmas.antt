-- The tokens of a text without blanks at both ends are those of the text, at shifted offsets.
use Rattle.std.proofs.Common.{◌≡◌, ℕ, zero, suc, ◌+◌, ◌-◌, ◌≤◌, Bool, true, false, if◌then◌else◌, List, [], ◌∷◌, ◌++◌, length, reverse, map, take, drop, refl, sym, ap, ◌∙◌, arith, one-add, length-drop}
use Rattle.std.specs.List.{prefix_len}
use Rattle.std.proofs.lemmas.Bool.{cond_both}
use Rattle.std.proofs.lemmas.List.{reverse-append, take-append-drop, length-reverse}
use Rattle.std.proofs.lemmas.List.Sums.{prefix_len-le-length}
use Rattle.std.proofs.Math.Seq.{drop-append_seam}
use Rattle.trace_lex.specs.Blanks.{is_blank, without_end, trimmed}
use Rattle.trace_filter.specs.Tokens.{is_comparison, piece_of, Spot, spots_from, spots_of, tokens_of, shifted_by}
use Rattle.trace_filter.proofs.SpotLemmas.{blanks}

-- ---- offsets

spots_shift : (value_due : Bool) (skip k at : ℕ) (bs : List ℕ) → spots_from value_due skip (k + at) bs ≡ map (shifted_by k) (spots_from value_due skip at bs)
spots_shift value_due skip k at [] = refl
spots_shift value_due (suc skip) k at (b ∷ bs) = ap (λ offset. spots_from value_due skip offset bs) (next k at) ∙ spots_shift value_due skip k (at + 1) bs
  where
    next : (k at : ℕ) → k + at + 1 ≡ k + (at + 1)
    next k at = omega arith
spots_shift value_due zero k at (b ∷ bs) =
    by (spots_from value_due 0 (at + 1) bs) (spots_from (is_comparison (piece_of value_due b bs).token) (piece_of value_due b bs).more (at + 1) bs) (is_blank b)
    (ap (λ offset. spots_from value_due 0 offset bs) (next k at) ∙ spots_shift value_due 0 k (at + 1) bs)
    (ap (λ offset. spots_from (is_comparison (piece_of value_due b bs).token) (piece_of value_due b bs).more offset bs) (next k at) ∙ spots_shift (is_comparison (piece_of value_due b bs).token) (piece_of value_due b bs).more k (at + 1) bs)
  where
    next : (k at : ℕ) → k + at + 1 ≡ k + (at + 1)
    next k at = omega arith

    by : {x y : List Spot} (u v : List Spot) (blank : Bool) → x ≡ map (shifted_by k) u → y ≡ map (shifted_by k) v
        → (if blank then x else (record { at = k + at; token = (piece_of value_due b bs).token } ∷ y)) ≡ map (shifted_by k) (if blank then u else (record { at = at; token = (piece_of value_due b bs).token } ∷ v))
    by u v true e f = e
    by u v false e f = ap (λ spots. record { at = k + at; token = (piece_of value_due b bs).token } ∷ spots) f

-- ---- ends

no_more : (bs : List ℕ) → prefix_len is_blank (drop (prefix_len is_blank bs) bs) ≡ 0
no_more [] = refl
no_more (b ∷ bs) = cond_both (is_blank b) (1 + prefix_len is_blank bs) 0 (λ n. prefix_len is_blank (drop n (b ∷ bs)) ≡ 0) (λ _. rw one-add (no_more bs)) (λ e. cond_is (is_blank b) (1 + prefix_len is_blank bs) e)
  where
    cond_is : (p : Bool) (n : ℕ) → p ≡ false → (if p then n else 0) ≡ 0
    cond_is true n e = absurd (cc)
    cond_is false n e = refl

front_no_more : (front bs : List ℕ) → prefix_len is_blank (front ++ bs) ≡ 0 → prefix_len is_blank front ≡ 0
front_no_more [] bs h = refl
front_no_more (a ∷ rest) bs h = by (is_blank a) h
  where
    by : (p : Bool) → (if p then 1 + prefix_len is_blank (rest ++ bs) else 0) ≡ 0 → (if p then 1 + prefix_len is_blank rest else 0) ≡ 0
    by true h = absurd (omega arith)
    by false h = refl

-- a text with no blank at its end is left whole
no_end : (text : List ℕ) → prefix_len is_blank (reverse text) ≡ 0 → without_end text ≡ text
no_end text h = ap (λ n. take (length text - n) text) h ∙ take_all text
  where
    take_all : (xs : List ℕ) → take (length xs - 0) xs ≡ xs
    take_all xs = let e : length xs - 0 ≡ length xs = omega arith in ap (λ n. take n xs) e ∙ all xs
      where
        all : (ys : List ℕ) → take (length ys) ys ≡ ys
        all [] = refl
        all (y ∷ ys) = ap (λ zs. y ∷ zs) (all ys)

end_is_cut : (text : List ℕ) → prefix_len is_blank (reverse (without_end text)) ≡ 0
end_is_cut text =
    let q = prefix_len is_blank (reverse text) in
    let k = length text - q in
    let few : q ≤ length text = omega (arith, prefix_len-le-length is_blank (reverse text), length-reverse text) in
    let size : length (reverse (drop k text)) ≡ q = length-reverse (drop k text) ∙ length-drop k text ∙ rest few in
    let whole : reverse text ≡ reverse (drop k text) ++ reverse (take k text) = ap reverse (sym (take-append-drop k text)) ∙ reverse-append (take k text) (drop k text) in
    let cut : drop q (reverse text) ≡ reverse (take k text) = ap (drop q) whole ∙ ap (λ n. drop n (reverse (drop k text) ++ reverse (take k text))) (sym size) ∙ drop-append_seam (reverse (drop k text)) (reverse (take k text)) in
    ap (prefix_len is_blank) (sym cut) ∙ no_more (reverse text)
  where
    rest : {q n : ℕ} → q ≤ n → n - (n - q) ≡ q
    rest h = omega arith

pub trimmed_end : (text : List ℕ) → without_end (trimmed text) ≡ trimmed text
trimmed_end text =
    let w = without_end text in
    let k = prefix_len is_blank w in
    let whole : reverse w ≡ reverse (drop k w) ++ reverse (take k w) = ap reverse (sym (take-append-drop k w)) ∙ reverse-append (take k w) (drop k w) in
    no_end (drop k w) (front_no_more (reverse (drop k w)) (reverse (take k w)) (ap (prefix_len is_blank) (sym whole) ∙ end_is_cut text))

pub trimmed_spots : (text : List ℕ) → spots_of text ≡ map (shifted_by (prefix_len is_blank (without_end text))) (spots_of (trimmed text))
trimmed_spots text =
    let k = prefix_len is_blank (without_end text) in
    let zero_add : 0 + k ≡ k + 0 = omega arith in
    blanks false 0 (without_end text) ∙ ap (λ offset. spots_from false 0 offset (trimmed text)) zero_add ∙ spots_shift false 0 k 0 (trimmed text)
    ∙ ap (λ bytes. map (shifted_by k) (spots_from false 0 0 bytes)) (sym (trimmed_end text))

same_tokens : (k : ℕ) (spots : List Spot) → tokens_of (map (shifted_by k) spots) ≡ tokens_of spots
same_tokens k [] = refl
same_tokens k (spot ∷ spots) = ap (λ tokens. spot.token ∷ tokens) (same_tokens k spots)

pub trimmed_tokens : (text : List ℕ) → tokens_of (spots_of (trimmed text)) ≡ tokens_of (spots_of text)
trimmed_tokens text = sym (ap tokens_of (trimmed_spots text) ∙ same_tokens (prefix_len is_blank (without_end text)) (spots_of (trimmed text)))

pub trimmed_twice : (text : List ℕ) → trimmed (trimmed text) ≡ trimmed text
trimmed_twice text = ap (λ w. drop (prefix_len is_blank w) w) (trimmed_end text) ∙ ap (λ n. drop n (trimmed text)) (no_more (without_end text))
