-- Numbers and their bytes.
use Rattle.std.proofs.Common.{◌≡◌, ℕ, ◌+◌, ◌<◌, ◌≤◌, ◌^◌, List, [], ◌∷◌, ◌++◌, length, get_or, take, drop, inl, inr, refl, sym, ap, ◌∙◌, arith, length-take, length-drop}
use Rattle.std.specs.Int.{Width, w16, w32, w64, to_le_bytes, from_le_bytes}
use Rattle.std.proofs.lemmas.Bool.{cases_lt}
use Rattle.std.proofs.lemmas.List.{drop_more, get_or-take, get_or-drop, get_or_past}
use Rattle.std.proofs.lemmas.Nat.{le_bytes_4, le_bytes_8, from_le_bytes-to_le_bytes_2, from_le_bytes-to_le_bytes_4, from_le_bytes-to_le_bytes_8}
use Rattle.fuse_wire.specs.Parts.{U16, U32, U64, IsPart, number_bytes}

-- the number whose bytes these are
pub value : Width → List ℕ → ℕ
value width bytes = from_le_bytes width bytes

pub value_16 : (number : ℕ) (bytes : List ℕ) → IsPart (U16 number) bytes → value w16 bytes ≡ number
unfolding value number_bytes
value_16 number bytes (fits, is) = rw is (from_le_bytes-to_le_bytes_2 number fits)

pub value_32 : (number : ℕ) (bytes : List ℕ) → IsPart (U32 number) bytes → value w32 bytes ≡ number
unfolding value number_bytes
value_32 number bytes (fits, is) = rw is (from_le_bytes-to_le_bytes_4 number fits)

pub value_64 : (number : ℕ) (bytes : List ℕ) → IsPart (U64 number) bytes → value w64 bytes ≡ number
unfolding value number_bytes
value_64 number bytes (fits, is) = rw is (from_le_bytes-to_le_bytes_8 number fits)

pub length-number_32 : (number : ℕ) → length (number_bytes w32 number) ≡ 4
unfolding number_bytes
length-number_32 number = refl

pub length-number_64 : (number : ℕ) → length (number_bytes w64 number) ≡ 8
unfolding number_bytes
length-number_64 number = refl

pub length-number_16 : (number : ℕ) → length (number_bytes w16 number) ≡ 2
unfolding number_bytes
length-number_16 number = refl

-- ---- reading

cell : (bytes : List ℕ) (at next : ℕ) → next ≡ at + 1 → at < length bytes → drop at bytes ≡ get_or bytes at 0 ∷ drop next bytes
cell bytes at next e l = rw e (drop_more bytes at 0 l)

four_cells : (bytes : List ℕ) (at : ℕ) → at + 4 ≤ length bytes → take 4 (drop at bytes) ≡ get_or bytes at 0 ∷ get_or bytes (at + 1) 0 ∷ get_or bytes (at + 2) 0 ∷ get_or bytes (at + 3) 0 ∷ []
four_cells bytes at l =
    let a = cell bytes at (at + 1) refl (omega arith) in
    let b = cell bytes (at + 1) (at + 2) (omega arith) (omega arith) in
    let c = cell bytes (at + 2) (at + 3) (omega arith) (omega arith) in
    let d = cell bytes (at + 3) (at + 4) (omega arith) (omega arith) in
    rw (a, b, c, d) refl

eight_cells : (bytes : List ℕ) (at : ℕ) → at + 8 ≤ length bytes
    → take 8 (drop at bytes)
    ≡ get_or bytes at 0 ∷ get_or bytes (at + 1) 0 ∷ get_or bytes (at + 2) 0 ∷ get_or bytes (at + 3) 0 ∷ get_or bytes (at + 4) 0 ∷ get_or bytes (at + 5) 0 ∷ get_or bytes (at + 6) 0 ∷ get_or bytes (at + 7) 0 ∷ []
eight_cells bytes at l =
    let a = cell bytes at (at + 1) refl (omega arith) in
    let b = cell bytes (at + 1) (at + 2) (omega arith) (omega arith) in
    let c = cell bytes (at + 2) (at + 3) (omega arith) (omega arith) in
    let d = cell bytes (at + 3) (at + 4) (omega arith) (omega arith) in
    let e = cell bytes (at + 4) (at + 5) (omega arith) (omega arith) in
    let f = cell bytes (at + 5) (at + 6) (omega arith) (omega arith) in
    let g = cell bytes (at + 6) (at + 7) (omega arith) (omega arith) in
    let h = cell bytes (at + 7) (at + 8) (omega arith) (omega arith) in
    rw (a, b, c, d, e, f, g, h) refl

abbrev pub AreBytes : List ℕ → Type 0
AreBytes bytes = (i : ℕ) → get_or bytes i 0 < 256

bytes_taken : (count at : ℕ) (bytes : List ℕ) → AreBytes bytes → AreBytes (take count (drop at bytes))
bytes_taken count at bytes each i =
    elim (cases_lt i count) [
      | inl lt ↦ rw (get_or-take count (drop at bytes) i 0 lt, get_or-drop) (each (at + i))
      | inr le ↦ rw (get_or_past (take count (drop at bytes)) i 0 (omega (arith, length-take count (drop at bytes)))) (omega arith)
    ]

size_taken : (count at : ℕ) (bytes : List ℕ) → at + count ≤ length bytes → length (take count (drop at bytes)) ≡ count
size_taken count at bytes l = omega (arith, length-take count (drop at bytes), length-drop at bytes)

pub four_read : (bytes : List ℕ) (at number : ℕ) → AreBytes bytes → at + 4 ≤ length bytes → number < 2 ^ 32
    → number ≡ from_le_bytes w32 (get_or bytes at 0 ∷ get_or bytes (at + 1) 0 ∷ get_or bytes (at + 2) 0 ∷ get_or bytes (at + 3) 0 ∷ [])
    → IsPart (U32 number) (take 4 (drop at bytes))
unfolding number_bytes
four_read bytes at number each l fits e =
    let read : number ≡ from_le_bytes w32 (take 4 (drop at bytes)) = e ∙ ap (from_le_bytes w32) (sym (four_cells bytes at l)) in
    (fits, sym (le_bytes_4 (take 4 (drop at bytes)) number (size_taken 4 at bytes l) (bytes_taken 4 at bytes each) read))

pub eight_read : (bytes : List ℕ) (at number : ℕ) → AreBytes bytes → at + 8 ≤ length bytes → number < 2 ^ 64
    → number
    ≡ from_le_bytes w64
    (get_or bytes at 0 ∷ get_or bytes (at + 1) 0 ∷ get_or bytes (at + 2) 0 ∷ get_or bytes (at + 3) 0 ∷ get_or bytes (at + 4) 0 ∷ get_or bytes (at + 5) 0 ∷ get_or bytes (at + 6) 0 ∷ get_or bytes (at + 7) 0 ∷ [])
    → IsPart (U64 number) (take 8 (drop at bytes))
unfolding number_bytes
eight_read bytes at number each l fits e =
    let read : number ≡ from_le_bytes w64 (take 8 (drop at bytes)) = e ∙ ap (from_le_bytes w64) (sym (eight_cells bytes at l)) in
    (fits, sym (le_bytes_8 (take 8 (drop at bytes)) number (size_taken 8 at bytes l) (bytes_taken 8 at bytes each) read))

-- ---- writing

pub pair_bytes : (first second : ℕ) (a b : List ℕ) → a ≡ to_le_bytes w32 first → b ≡ to_le_bytes w32 second
    → get_or a 0 0 ∷ get_or a 1 0 ∷ get_or a 2 0 ∷ get_or a 3 0 ∷ get_or b 0 0 ∷ get_or b 1 0 ∷ get_or b 2 0 ∷ get_or b 3 0 ∷ [] ≡ number_bytes w32 first ++ number_bytes w32 second
unfolding number_bytes
pair_bytes first second a b p q = rw (p, q) refl

pub triple_bytes : (first second third : ℕ) (a b c : List ℕ) → a ≡ to_le_bytes w16 first → b ≡ to_le_bytes w16 second → c ≡ to_le_bytes w32 third
    → get_or a 0 0 ∷ get_or a 1 0 ∷ get_or b 0 0 ∷ get_or b 1 0 ∷ get_or c 0 0 ∷ get_or c 1 0 ∷ get_or c 2 0 ∷ get_or c 3 0 ∷ []
    ≡ number_bytes w16 first ++ number_bytes w16 second ++ number_bytes w32 third
unfolding number_bytes
triple_bytes first second third a b c p q r = rw (p, q, r) refl

-- as many zeros
pub two_zeros : (rest : List ℕ) → number_bytes w16 0 ++ (number_bytes w16 0 ++ rest) ≡ number_bytes w32 0 ++ rest
unfolding number_bytes
two_zeros rest = refl
