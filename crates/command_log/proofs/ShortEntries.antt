-- Bytes that are written from both of their ends, and bytes that are written into a part of others.
use Rattle.std.proofs.Common.{◌≡◌, ℕ, ◌+◌, ◌≤◌, List, ◌++◌, length, take, drop, refl, sym, ap, ◌∙◌, arith, append_assoc, length-append, length-take}
use Rattle.std.proofs.lemmas.List.{take-append-drop, take-take, take_at, drop-drop, length-take-le}
use Rattle.std.proofs.lemmas.Simd.{put_chunk_is}
use lib.Lanes.{put_chunk}

regrouped : (p a b r : List ℕ) → p ++ (a ++ b) ++ r ≡ (p ++ a) ++ (b ++ r)
regrouped p a b r = simp append_assoc

length_two : (out text : List ℕ) (at k : ℕ) → k ≤ length text → at ≤ length out → length (take at out ++ take k text) ≡ at + k
length_two out text at k m r = grind (arith, length-append, length-take, m, r)

-- the first of two moves, up to where the second begins
first_move : (out text tail : List ℕ) (at size k : ℕ) → k ≤ size → size ≤ length text → at ≤ length out → take (at + k) (take at out ++ take size text ++ tail) ≡ take at out ++ take k text
first_move out text tail at size k l m r =
    let q = take size text in
    let split : q ≡ take k text ++ drop k q = sym (take-append-drop k q) ∙ ap (λ (xs : List ℕ). xs ++ drop k q) (take-take k size text l) in
    let whole : take at out ++ q ++ tail ≡ (take at out ++ take k text) ++ (drop k q ++ tail) =
    ap (λ (xs : List ℕ). take at out ++ xs ++ tail) split ∙ regrouped (take at out) (take k text) (drop k q) tail in
    rw whole (take_at (take at out ++ take k text) (drop k q ++ tail) (at + k) (length_two out text at k (omega arith) r))

-- both
pub ends_put : (out a b text last tail rest : List ℕ) (at size k : ℕ) → length text ≡ k + size → k ≤ size → at ≤ length out → a ≡ take at out ++ take size text ++ tail → b ≡ take (at + k) a ++ last ++ rest → last ≡ drop k text → take (at + length text) b ≡ take at out ++ text
ends_put out a b text last tail rest at size k e l r ea eb el =
    let all : take at out ++ take k text ++ drop k text ≡ take at out ++ text =
    append_assoc (take at out) (take k text) (drop k text) ∙ ap (λ (xs : List ℕ). take at out ++ xs) (take-append-drop k text) in
    let before : take (at + k) a ≡ take at out ++ take k text = rw ea (first_move out text tail at size k l (omega (arith, e)) r) in
    let whole : b ≡ (take at out ++ text) ++ rest = eb ∙ rw (el, before, all) refl in
    rw whole (take_at (take at out ++ text) rest (at + length text) (grind (arith, length-append, length-take, r)))

-- one move
pub first_put : (out first : List ℕ) (at n : ℕ) → length first ≡ n → at + n ≤ length out → put_chunk at out first ≡ take at out ++ first ++ drop (at + n) out
first_put out first at n long room =
    put_chunk_is at out first (omega (arith, long))
    ∙ sym (append_assoc (take at out) first (drop (length first) (drop at out)))
    ∙ ap (λ (xs : List ℕ). (take at out ++ first) ++ xs) (ap (λ (k : ℕ). drop k (drop at out)) long ∙ drop-drop n at out)

-- a part of the bytes, of which the first ones are written
pub part_put : (out all part text : List ℕ) (at n size : ℕ) → take (at + size) all ≡ take at out ++ part → at ≤ length out → length part ≡ size → n ≤ size → take n part ≡ text
    → take (at + n) all ≡ take at out ++ text
part_put out all part text at n size put room long few e =
    let p = take at out in
    let split : part ≡ text ++ drop n part = sym (take-append-drop n part) ∙ ap (λ (xs : List ℕ). xs ++ drop n part) e in
    let whole : p ++ part ≡ (p ++ text) ++ drop n part = ap (λ (xs : List ℕ). p ++ xs) split ∙ sym (append_assoc p text (drop n part)) in
    let written : length text ≡ n = ap length (sym e) ∙ length-take-le n part (omega (arith, long, few)) in
    let before : length p ≡ at = length-take-le at out room in
    sym (take-take (at + n) (at + size) all (omega (arith, few))) ∙ ap (take (at + n)) (put ∙ whole)
    ∙ take_at (p ++ text) (drop n part) (at + n) (omega (arith, length-append p text, written, before))
