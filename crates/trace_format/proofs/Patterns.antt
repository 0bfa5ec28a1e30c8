-- Numbers and the bytes that write them.
use Rattle.std.proofs.Common.{◌≡◌, ℕ, zero, suc, ◌+◌, ◌-◌, ◌*◌, ◌/◌, ◌%◌, ◌^◌, ◌<◌, ◌≤◌, ℤ, pos, negsuc, neg_ℤ, ◌≤ℤ◌, true, false, nat_lt, nat_le, if◌then◌else◌, ◌⊎◌, List, [], ◌∷◌, ◌++◌, length, set, take, refl, sym, ap, ◌∙◌, subst, inl, inr, ⊎_elim, arith, pow-suc, leb-true, lt-ltb, le-ltb, length-set, append_assoc}
use Rattle.std.proofs.lemmas.Bool.{agree_below_at, cond-true, cond-false, cases_lt}
use Rattle.std.proofs.lemmas.Int.{ints}
use Rattle.std.specs.Int.{w32, w64, to_le_bytes}
use Rattle.std.proofs.lemmas.List.{take_more_set}
use Rattle.trace_format.specs.declared.kind.NumberType.{NumberType}
use Rattle.trace_format.specs.declared.kind.NumberType.TheVariants.{U8, U16, U32, U64, S8, S16, S32, S64, Int, PidT, UnsignedInt, Long, UnsignedLong}
use Rattle.trace_format.specs.declared.kind.Kind.TheVariants.{Number}
use Rattle.trace_format.specs.Kinds.{number_size, is_signed, least, greatest}
use Rattle.trace_format.specs.Cells.{Whole, Holds, little_endian, two's_complement}
use Rattle.trace_format.specs.Decoding.{unsigned_from, number_from}

-- seven bytes leave room for one more
small_power : (n : ℕ) → n < 8 → 256 ^ n ≤ 2 ^ 56
small_power n small = leb-true _ _ (agree_below_at (λ k. nat_le (256 ^ k) (2 ^ 56)) (λ _. true) 8 n refl small)

pub high_fits : (n v : ℕ) → v < 256 ^ n → n < 8 → v < 2 ^ 56
high_fits n v bound small = omega (arith, bound, small_power n small)

-- each byte is one
abbrev pub AreBytes : List ℕ → Type 0
AreBytes [] = Unit {0}
AreBytes (b ∷ bs) = (b < 256) × AreBytes bs

pub length-little_endian : (size n : ℕ) → length (little_endian size n) ≡ size
length-little_endian zero n = refl
length-little_endian (suc size) n = ap suc (length-little_endian size (n / 256))

-- what is written is read
pub unsigned_from-written : (size n : ℕ) → n < 256 ^ size → unsigned_from (little_endian size n) ≡ n
unsigned_from-written zero n small = omega arith
unsigned_from-written (suc size) n small =
    let power : 256 ^ suc size ≡ 256 ^ size * 256 = pow-suc 256 size in
    let rest = unsigned_from-written size (n / 256) (omega (arith, power)) in
    omega (arith, rest)

-- what is read is written
pub written-unsigned_from : (bytes : List ℕ) → AreBytes bytes → little_endian (length bytes) (unsigned_from bytes) ≡ bytes
written-unsigned_from [] are = refl
written-unsigned_from (b ∷ bs) are =
    let small : b < 256 = are.0 in
    let low : (b + 256 * unsigned_from bs) % 256 ≡ b = omega arith in
    let high : (b + 256 * unsigned_from bs) / 256 ≡ unsigned_from bs = omega arith in
    (λ i. low i ∷ little_endian (length bs) (high i)) ∙ ap (λ rest. b ∷ rest) (written-unsigned_from bs are.1)

pub unsigned_from-lt : (bytes : List ℕ) → AreBytes bytes → unsigned_from bytes < 256 ^ length bytes
unsigned_from-lt [] are = omega arith
unsigned_from-lt (b ∷ bs) are =
    let power : 256 ^ suc (length bs) ≡ 256 ^ length bs * 256 = pow-suc 256 (length bs) in
    omega (arith, power, are.0, unsigned_from-lt bs are.1)

-- ---- the limits of the types

pub record IsUnsigned (t : NumberType) : Type 0 where
  pub sign : is_signed t ≡ false
  pub low : least t ≡ pos 0
  pub high : greatest t ≡ pos (256 ^ number_size t - 1)
  pub some : 0 < 256 ^ number_size t

pub record IsSignedType (t : NumberType) : Type 0 where
  pub sign : is_signed t ≡ true
  pub low : least t ≡ neg_ℤ (pos (256 ^ number_size t / 2))
  pub high : greatest t ≡ pos (256 ^ number_size t / 2 - 1)
  pub even : 256 ^ number_size t ≡ 2 * (256 ^ number_size t / 2)
  pub some : 0 < 256 ^ number_size t / 2

pub limits : (t : NumberType) → IsUnsigned t ⊎ IsSignedType t
limits U8 = inl (record { sign = refl; low = refl; high = refl; some = omega arith })
limits U16 = inl (record { sign = refl; low = refl; high = refl; some = omega arith })
limits U32 = inl (record { sign = refl; low = refl; high = refl; some = omega arith })
limits U64 = inl (record { sign = refl; low = refl; high = refl; some = omega arith })
limits S8 = inr (record { sign = refl; low = refl; high = refl; even = refl; some = omega arith })
limits S16 = inr (record { sign = refl; low = refl; high = refl; even = refl; some = omega arith })
limits S32 = inr (record { sign = refl; low = refl; high = refl; even = refl; some = omega arith })
limits S64 = inr (record { sign = refl; low = refl; high = refl; even = refl; some = omega arith })
limits Int = inr (record { sign = refl; low = refl; high = refl; even = refl; some = omega arith })
limits PidT = inr (record { sign = refl; low = refl; high = refl; even = refl; some = omega arith })
limits UnsignedInt = inl (record { sign = refl; low = refl; high = refl; some = omega arith })
limits Long = inr (record { sign = refl; low = refl; high = refl; even = refl; some = omega arith })
limits UnsignedLong = inl (record { sign = refl; low = refl; high = refl; some = omega arith })

-- ---- two's complement, over any even number of patterns

abbrev pattern_of : ℕ → ℤ → ℕ
pattern_of end (pos n) = n
pattern_of end (negsuc n) = end - suc n

abbrev signed_of : ℕ → ℕ → ℤ
signed_of end p = if nat_lt p (end / 2) then pos p else negsuc (end - suc p)

two's_complement_is : (size : ℕ) (n : ℤ) → two's_complement size n ≡ pattern_of (256 ^ size) n
two's_complement_is size (pos n) = refl
two's_complement_is size (negsuc n) = refl

signed_of-pattern : (end : ℕ) (n : ℤ) → end ≡ 2 * (end / 2) → neg_ℤ (pos (end / 2)) ≤ℤ n → n ≤ℤ pos (end / 2 - 1) → 0 < end / 2 → (signed_of end (pattern_of end n) ≡ n) × (pattern_of end n < end)
signed_of-pattern end (pos n) even low high some =
    let small : n < end / 2 = omega (arith, ints) in
    (cond-true _ _ _ (lt-ltb n (end / 2) small), omega arith)
signed_of-pattern end (negsuc n) even low high some =
    let small : suc n ≤ end / 2 = omega (arith, ints) in
    let large : end / 2 ≤ end - suc n = omega arith in
    let back : end - suc (end - suc n) ≡ n = omega arith in
    (cond-false _ _ _ (le-ltb (end - suc n) (end / 2) large) ∙ ap negsuc back, omega arith)

pattern_of-signed : (end p : ℕ) → end ≡ 2 * (end / 2) → p < end → (pattern_of end (signed_of end p) ≡ p) × (neg_ℤ (pos (end / 2)) ≤ℤ signed_of end p) × (signed_of end p ≤ℤ pos (end / 2 - 1))
pattern_of-signed end p even small = ⊎_elim
    (λ low.
    let is : signed_of end p ≡ pos p = cond-true _ _ _ (lt-ltb p (end / 2) low) in
    (ap (pattern_of end) is, subst (λ z. neg_ℤ (pos (end / 2)) ≤ℤ z) (sym is) (omega (arith, ints)), subst (λ z. z ≤ℤ pos (end / 2 - 1)) (sym is) (omega (arith, ints))))
    (λ high.
    let is : signed_of end p ≡ negsuc (end - suc p) = cond-false _ _ _ (le-ltb p (end / 2) high) in
    let back : end - suc (end - suc p) ≡ p = omega arith in
    (ap (pattern_of end) is ∙ back, subst (λ z. neg_ℤ (pos (end / 2)) ≤ℤ z) (sym is) (omega (arith, ints)), subst (λ z. z ≤ℤ pos (end / 2 - 1)) (sym is) (omega (arith, ints))))
    (cases_lt p (end / 2))

-- ---- numbers of a type

unsigned_is : (t : NumberType) → IsUnsigned t → (bytes : List ℕ) → number_from t bytes ≡ pos (unsigned_from bytes)
unsigned_is t u bytes = cond-false _ _ _ u.sign

signed_is : (t : NumberType) → IsSignedType t → (bytes : List ℕ) → number_from t bytes ≡ signed_of (256 ^ number_size t) (unsigned_from bytes)
signed_is t s bytes = cond-true _ _ _ s.sign

unsigned-written : (t : NumberType) → IsUnsigned t → (n : ℤ) → Holds (Number t) (Whole n) → number_from t (little_endian (number_size t) (two's_complement (number_size t) n)) ≡ n
unsigned-written t u (pos k) held =
    let high : pos k ≤ℤ pos (256 ^ number_size t - 1) = subst (λ z. pos k ≤ℤ z) u.high held.1 in
    let some : 0 < 256 ^ number_size t = u.some in
    let small : k < 256 ^ number_size t = omega (arith, ints) in
    unsigned_is t u (little_endian (number_size t) k) ∙ ap pos (unsigned_from-written (number_size t) k small)
unsigned-written t u (negsuc k) held =
    let low : pos 0 ≤ℤ negsuc k = subst (λ z. z ≤ℤ negsuc k) u.low held.0 in
    absurd (omega (arith, ints))

signed-written : (t : NumberType) → IsSignedType t → (n : ℤ) → Holds (Number t) (Whole n) → number_from t (little_endian (number_size t) (two's_complement (number_size t) n)) ≡ n
signed-written t s n held =
    let end = 256 ^ number_size t in
    let back = signed_of-pattern end n s.even (subst (λ z. z ≤ℤ n) s.low held.0) (subst (λ z. n ≤ℤ z) s.high held.1) s.some in
    let is = two's_complement_is (number_size t) n in
    signed_is t s (little_endian (number_size t) (two's_complement (number_size t) n))
    ∙ ap (λ k. signed_of end (unsigned_from (little_endian (number_size t) k))) is
    ∙ ap (signed_of end) (unsigned_from-written (number_size t) (pattern_of end n) back.1) ∙ back.0

between_is : {a b c d : ℤ} → a ≡ b → c ≡ d → b ≤ℤ d → a ≤ℤ c
between_is {a} {b} {c} {d} e f h = subst (λ z. z ≤ℤ c) (sym e) (subst (λ z. b ≤ℤ z) (sym f) h)

-- what a number's bytes are read as
pub number-written : (t : NumberType) (n : ℤ) → Holds (Number t) (Whole n) → number_from t (little_endian (number_size t) (two's_complement (number_size t) n)) ≡ n
number-written t n held = ⊎_elim (λ u. unsigned-written t u n held) (λ s. signed-written t s n held) (limits t)

-- and what is read, written
pub number-read : (t : NumberType) (bytes : List ℕ) → AreBytes bytes → length bytes ≡ number_size t → little_endian (number_size t) (two's_complement (number_size t) (number_from t bytes)) ≡ bytes
number-read t bytes are size =
    let all : little_endian (number_size t) (unsigned_from bytes) ≡ bytes = ap (λ k. little_endian k (unsigned_from bytes)) (sym size) ∙ written-unsigned_from bytes are in
    let small : unsigned_from bytes < 256 ^ number_size t = subst (λ k. unsigned_from bytes < 256 ^ k) size (unsigned_from-lt bytes are) in
    ⊎_elim
    (λ u. ap (λ z. little_endian (number_size t) (two's_complement (number_size t) z)) (unsigned_is t u bytes) ∙ all)
    (λ s.
    ap (λ z. little_endian (number_size t) (two's_complement (number_size t) z)) (signed_is t s bytes)
    ∙ ap (little_endian (number_size t)) (two's_complement_is (number_size t) (signed_of (256 ^ number_size t) (unsigned_from bytes)) ∙ (pattern_of-signed (256 ^ number_size t) (unsigned_from bytes) s.even small).0)
    ∙ all)
    (limits t)

pub number-held : (t : NumberType) (bytes : List ℕ) → AreBytes bytes → length bytes ≡ number_size t → Holds (Number t) (Whole (number_from t bytes))
number-held t bytes are size =
    let small : unsigned_from bytes < 256 ^ number_size t = subst (λ k. unsigned_from bytes < 256 ^ k) size (unsigned_from-lt bytes are) in
    ⊎_elim
    (λ u.
    let within : pos (unsigned_from bytes) ≤ℤ pos (256 ^ number_size t - 1) = omega (arith, ints) in
    let above : pos 0 ≤ℤ pos (unsigned_from bytes) = omega (arith, ints) in
    (between_is u.low (unsigned_is t u bytes) above, between_is (unsigned_is t u bytes) u.high within))
    (λ s.
    let range = pattern_of-signed (256 ^ number_size t) (unsigned_from bytes) s.even small in
    (between_is s.low (signed_is t s bytes) range.1, between_is (signed_is t s bytes) s.high range.2))
    (limits t)

-- ---- a loop that writes bytes

pub written_more : (out : List ℕ) (i left : ℕ) (all : List ℕ) → i < length out → take i out ++ little_endian (length out - i) left ≡ all
    → take (i + 1) (set out i (left % 256)) ++ little_endian (length (set out i (left % 256)) - (i + 1)) (left / 256) ≡ all
written_more out i left all within so_far =
    let one_less : length out - i ≡ suc (length out - (i + 1)) = omega arith in
    (λ j. take_more_set out i (left % 256) within j ++ little_endian (length-set out i (left % 256) j - (i + 1)) (left / 256))
    ∙ append_assoc (take i out) (left % 256 ∷ []) (little_endian (length out - (i + 1)) (left / 256))
    ∙ ap (λ k. take i out ++ little_endian k left) (sym one_less) ∙ so_far

-- ---- eight bytes at once

pub eight_bytes : (n : ℕ) → to_le_bytes w64 n ≡ little_endian 8 n
eight_bytes n =
    let third : n / 256 ^ 2 % 256 ≡ n / 256 / 256 % 256 = omega arith in
    let fourth : n / 256 ^ 3 % 256 ≡ n / 256 / 256 / 256 % 256 = omega arith in
    let fifth : n / 256 ^ 4 % 256 ≡ n / 256 / 256 / 256 / 256 % 256 = omega arith in
    let sixth : n / 256 ^ 5 % 256 ≡ n / 256 / 256 / 256 / 256 / 256 % 256 = omega arith in
    let seventh : n / 256 ^ 6 % 256 ≡ n / 256 / 256 / 256 / 256 / 256 / 256 % 256 = omega arith in
    let eighth : n / 256 ^ 7 % 256 ≡ n / 256 / 256 / 256 / 256 / 256 / 256 / 256 % 256 = omega arith in
    (λ i. n % 256 ∷ n / 256 % 256 ∷ third i ∷ fourth i ∷ fifth i ∷ sixth i ∷ seventh i ∷ eighth i ∷ [])

-- ---- and four

pub four_bytes : (n : ℕ) → to_le_bytes w32 (n % 2 ^ 32) ≡ little_endian 4 n
four_bytes n =
    let first : n % 2 ^ 32 % 256 ≡ n % 256 = omega arith in
    let second : n % 2 ^ 32 / 256 % 256 ≡ n / 256 % 256 = omega arith in
    let third : n % 2 ^ 32 / 256 ^ 2 % 256 ≡ n / 256 / 256 % 256 = omega arith in
    let fourth : n % 2 ^ 32 / 256 ^ 3 % 256 ≡ n / 256 / 256 / 256 % 256 = omega arith in
    (λ i. first i ∷ second i ∷ third i ∷ fourth i ∷ [])
