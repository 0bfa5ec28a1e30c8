-- The two's complement of a number, as it is computed.
use Rattle.std.proofs.Common.{◌≡◌, ℕ, suc, ◌+◌, ◌-◌, ◌/◌, ◌^◌, ◌<◌, ◌≤◌, ℤ, pos, negsuc, neg_ℤ, ◌+ℤ◌, ◌≤ℤ◌, true, false, refl, sym, ap, ◌∙◌, subst, ⊎_elim, arith, SFits, Fits, w64}
use lib.IntN.{nat_abs}
use lib.Signed.{lt_z, non_neg}
use lib.Dec.{T}
use Rattle.std.proofs.lemmas.Int.{ints, to_z-of_z}
use Rattle.std.proofs.lemmas.Bool.{false≢true}
use Rattle.std.specs.Int.{w128}
use mir.Val.{to_z, of_z}
use Rattle.trace_format.specs.declared.kind.NumberType.{NumberType}
use Rattle.trace_format.specs.declared.kind.NumberType.TheVariants.{U8, U16, U32, U64, S8, S16, S32, S64, Int, PidT, UnsignedInt, Long, UnsignedLong}
use Rattle.trace_format.specs.declared.kind.Kind.TheVariants.{Number}
use Rattle.trace_format.specs.Kinds.{number_size, least, greatest}
use Rattle.trace_format.specs.Cells.{Whole, Holds, two's_complement}
use Rattle.trace_format.proofs.Patterns.{IsUnsigned, IsSignedType, limits}

few_patterns : (t : NumberType) → 256 ^ number_size t ≤ 2 ^ 64
few_patterns U8 = omega arith
few_patterns U16 = omega arith
few_patterns U32 = omega arith
few_patterns U64 = omega arith
few_patterns S8 = omega arith
few_patterns S16 = omega arith
few_patterns S32 = omega arith
few_patterns S64 = omega arith
few_patterns Int = omega arith
few_patterns PidT = omega arith
few_patterns UnsignedInt = omega arith
few_patterns Long = omega arith
few_patterns UnsignedLong = omega arith

-- a number is the pattern, which 64 bits hold
pub record IsPattern (t : NumberType) (n sum : ℤ) : Type 0 where
  pub is : sum ≡ pos (two's_complement (number_size t) n)
  pub small : two's_complement (number_size t) n < 2 ^ 64

wraps : (end m : ℕ) → suc m ≤ end → negsuc m +ℤ pos end ≡ pos (end - suc m)
wraps end m h = omega (arith, ints)

at_least : (t : NumberType) (m : ℕ) → least t ≤ℤ negsuc m → suc m ≤ 256 ^ number_size t
at_least t m low = ⊎_elim
    (λ (u : IsUnsigned t). let above : pos 0 ≤ℤ negsuc m = subst (λ z. z ≤ℤ negsuc m) u.low low in absurd (omega (arith, ints)))
    (λ (s : IsSignedType t). let above : neg_ℤ (pos (256 ^ number_size t / 2)) ≤ℤ negsuc m = subst (λ z. z ≤ℤ negsuc m) s.low low in omega (arith, ints))
    (limits t)

at_most : (t : NumberType) (k : ℕ) → pos k ≤ℤ greatest t → k < 256 ^ number_size t
at_most t k high = ⊎_elim
    (λ (u : IsUnsigned t). let below : pos k ≤ℤ pos (256 ^ number_size t - 1) = subst (λ z. pos k ≤ℤ z) u.high high in let some : 0 < 256 ^ number_size t = u.some in omega (arith, ints))
    (λ (s : IsSignedType t). let below : pos k ≤ℤ pos (256 ^ number_size t / 2 - 1) = subst (λ z. pos k ≤ℤ z) s.high high in let some : 0 < 256 ^ number_size t / 2 = s.some in omega (arith, ints))
    (limits t)

below_zero : (t : NumberType) (n : ℤ) → Holds (Number t) (Whole n) → lt_z n (pos 0) ≡ true → IsPattern t n (n +ℤ pos (256 ^ number_size t))
below_zero t (pos k) held under = let no : k < 0 = search (Rattle.std.proofs.Common.rules) in absurd (omega arith)
below_zero t (negsuc m) held under =
    let few = few_patterns t in
    let low = at_least t m held.0 in
    record { is = wraps (256 ^ number_size t) m low; small = omega arith }

from_zero : (t : NumberType) (n : ℤ) → Holds (Number t) (Whole n) → lt_z n (pos 0) ≡ false → IsPattern t n n
from_zero t (pos k) held over =
    let few = few_patterns t in
    let high = at_most t k held.1 in
    record { is = refl; small = omega arith }
from_zero t (negsuc m) held over = absurd (false≢true (sym over))

-- what is computed with 128 bits, where nothing is lost
abbrev pub through : ℤ → ℤ
through n = to_z w128 (of_z w128 n)

pub adds : (t : NumberType) (n end : ℤ) → SFits w128 n → Holds (Number t) (Whole n) → end ≡ pos (256 ^ number_size t) → lt_z (through n) (pos 0) ≡ true → IsPattern t n (through n +ℤ through end)
adds t n end fits held is under =
    let few = few_patterns t in
    let ends : SFits w128 end = subst (SFits w128) (sym is) (omega arith) in
    let same = to_z-of_z w128 n fits in
    let sum = below_zero t n held (ap (λ z. lt_z z (pos 0)) (sym same) ∙ under) in
    record { is = (λ i. same i +ℤ to_z-of_z w128 end ends i) ∙ ap (λ z. n +ℤ z) is ∙ sum.is; small = sum.small }

pub stays : (t : NumberType) (n : ℤ) → SFits w128 n → Holds (Number t) (Whole n) → lt_z (through n) (pos 0) ≡ false → IsPattern t n (through n)
stays t n fits held over =
    let same = to_z-of_z w128 n fits in
    let sum = from_zero t n held (ap (λ z. lt_z z (pos 0)) (sym same) ∙ over) in
    record { is = same ∙ sum.is; small = sum.small }

pub pattern_fits : (t : NumberType) (n sum : ℤ) → IsPattern t n sum → SFits w128 sum
pattern_fits t n sum p =
    let small = p.small in
    subst (SFits w128) (sym p.is) (omega arith)

pub pattern_through : (t : NumberType) (n sum : ℤ) → IsPattern t n sum → IsPattern t n (through sum)
pattern_through t n sum p = record { is = to_z-of_z w128 sum (pattern_fits t n sum p) ∙ p.is; small = p.small }

pub casts : (t : NumberType) (n sum : ℤ) → IsPattern t n sum → T (non_neg sum) × Fits w64 (nat_abs sum)
casts t n sum p = subst (λ z. T (non_neg z) × Fits w64 (nat_abs z)) (sym p.is) (tt, record { fits = p.small })

pub pattern_is : (t : NumberType) (n sum : ℤ) → IsPattern t n sum → nat_abs sum ≡ two's_complement (number_size t) n
pattern_is t n sum p = ap nat_abs p.is
