-- Masks: the bits below an index say whether a test holds there, and the others are clear.
use Rattle.std.proofs.Common.{◌≡◌, ◌≢◌, ◌↔◌, ℕ, ◌+◌, ◌*◌, ◌<◌, ◌≤◌, ◌%◌, ◌^◌, Bool, true, false, bit_or, IsBitSet, refl, sym, ap, ◌∙◌, arith, below_more}
use Rattle.std.specs.Int.{bit_at, w64}
use Rattle.std.proofs.lemmas.Nat.{bit_set_by_shift}
use Rattle.std.proofs.lemmas.Nat.Bits.{bit_at_set_other, bit_at_set_same, shr_and_one}

-- the bit of a test
abbrev pub bit_of : Bool → ℕ
bit_of true = 1
bit_of false = 0

-- the bits below an index are those of a test, and the others are clear
pub record IsMaskBelow (test : ℕ → Bool) (index mask : ℕ) : Type 0 where
  pub below : (k : ℕ) → k < index → bit_at mask k ≡ bit_of (test k)
  pub above : (k : ℕ) → index ≤ k → bit_at mask k ≡ 0

-- ---- one bit after another

pub mask-set : (test : ℕ → Bool) (index mask : ℕ) → index < 64 → test index ≡ true → IsMaskBelow test index mask
    → IsMaskBelow test (index + 1) (bit_or mask (1 * 2 ^ index % 2 ^ 64))
mask-set test index mask inside holds was =
    let new = bit_or mask (1 * 2 ^ index % 2 ^ 64) in record {
      below = below_more (λ k. bit_at new k ≡ bit_of (test k)) index
          (λ k less. let other : k ≢ index = omega (arith, less) in bit_at_set_other w64 mask index inside k other ∙ was.below k less)
          (bit_at_set_same w64 mask index inside ∙ ap bit_of (sym holds));
      above = λ k past.
          let other : k ≢ index = omega (arith, past) in
          bit_at_set_other w64 mask index inside k other ∙ was.above k (omega (arith, past));
    }

pub mask-left : (test : ℕ → Bool) (index mask : ℕ) → test index ≡ false → IsMaskBelow test index mask → IsMaskBelow test (index + 1) mask
mask-left test index mask fails was = record {
  below = below_more (λ k. bit_at mask k ≡ bit_of (test k)) index was.below (was.above index (omega arith) ∙ ap bit_of (sym fails));
  above = λ k past. was.above k (omega (arith, past));
}

-- such a mask of 64 bits has just those set at which the test holds
pub mask-told : (test : ℕ → Bool) (index mask : ℕ) → 64 ≤ index → IsMaskBelow test index mask → (k : ℕ) → k < 64 → IsBitSet mask k ↔ (test k ≡ true)
mask-told test index mask all was k inside = by (test k) (was.below k (omega (arith, all, inside)))
  where
    by : (holds : Bool) → bit_at mask k ≡ bit_of holds → IsBitSet mask k ↔ (holds ≡ true)
    by true is = (λ set. refl, λ e. (bit_set_by_shift mask k).0 (shr_and_one mask k ∙ is))
    by false is = (
      λ set.
          let one : bit_at mask k ≡ 1 = sym (shr_and_one mask k) ∙ (bit_set_by_shift mask k).1 set in
          let not : 0 ≡ 1 = sym is ∙ one in
          absurd (omega (arith, not)),
      λ e. absurd cc,
    )
