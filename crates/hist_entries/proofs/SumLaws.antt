-- Sums stay in range, and numbers that are added index by index are added.
use Rattle.std.proofs.Common.{◌≡◌, ℕ, zero, suc, ◌+◌, ◌≤◌, ◌<◌, min, ℤ, pos, ◌+ℤ◌, List, [], ◌∷◌, ◌++◌, length, map, take, replicate, set, get_or, FitsSigned, to_z, of_z, refl, sym, ap, ◌∙◌, subst, arith}
use Rattle.std.specs.Int.{w128}
use Rattle.std.specs.List.{AllByRecursion}
use Rattle.std.proofs.lemmas.Int.{ints, to_z-of_z}
use Rattle.std.proofs.lemmas.List.{map_more, length-map, length-take-le}
use Rattle.hist_entries.specs.HistEntries.{added}
use Rattle.hist_entries.specs.RowPlaces.{most_rows}
use Rattle.hist_entries.specs.Numbers.{IsFieldNumber, IsWithin, AreWithin}

-- ---- ranges

pub within-more : (m n : ℕ) (sums : List ℤ) → m ≤ n → AreWithin m sums → AreWithin n sums
within-more m n [] le h = tt
within-more m n (sum ∷ sums) le h = ((omega (arith, ints, le, h.0.0), omega (arith, ints, le, h.0.1)), within-more m n sums le h.1)

-- with a row more
pub within-added : (rows : ℕ) (sums numbers : List ℤ) → AreWithin rows sums → AllByRecursion IsFieldNumber numbers
    → AreWithin (rows + 1) (added sums numbers)
within-added rows [] numbers h few = tt
within-added rows (sum ∷ sums) [] h few = within-more rows (rows + 1) (sum ∷ sums) (omega arith) h
within-added rows (sum ∷ sums) (n ∷ numbers) h few =
    ((omega (arith, ints, h.0.0, few.0.0), omega (arith, ints, h.0.1, few.0.1)), within-added rows sums numbers h.1 few.1)

pub within-at : (rows : ℕ) (sums : List ℤ) (k : ℕ) (d : ℤ) → AreWithin rows sums → k < length sums → IsWithin rows (get_or sums k d)
within-at rows [] k d h lt = absurd (omega (arith, lt))
within-at rows (sum ∷ sums) zero d h lt = h.0
within-at rows (sum ∷ sums) (suc k) d h lt = within-at rows sums k d h.1 (omega (arith, lt))

pub within-zeros : (rows width : ℕ) → AreWithin rows (replicate width (pos 0))
within-zeros rows zero = tt
within-zeros rows (suc width) = ((omega (arith, ints), omega (arith, ints)), within-zeros rows width)

-- a number is added to a sum in 128 bits
module _ (sum number : ℤ) (h : IsWithin (most_rows + 1) sum) (few : IsFieldNumber number) where
  sum-is : to_z w128 (of_z w128 sum) ≡ sum
  sum-is = to_z-of_z w128 sum (omega (arith, ints, h.0, h.1))

  number-is : to_z w128 (of_z w128 number) ≡ number
  number-is = to_z-of_z w128 number (omega (arith, ints, few.0, few.1))

  fits : FitsSigned w128 (sum +ℤ number)
  fits = omega (arith, ints, h.0, h.1, few.0, few.1)

  pub plus-fits : FitsSigned w128 (to_z w128 (of_z w128 sum) +ℤ to_z w128 (of_z w128 number))
  plus-fits = subst (FitsSigned w128) (sym (ap (λ s. s +ℤ to_z w128 (of_z w128 number)) sum-is ∙ ap (λ n. sum +ℤ n) number-is)) fits

  pub plus-is : to_z w128 (of_z w128 (to_z w128 (of_z w128 sum) +ℤ to_z w128 (of_z w128 number))) ≡ sum +ℤ number
  plus-is = to_z-of_z w128 _ plus-fits ∙ ap (λ s. s +ℤ to_z w128 (of_z w128 number)) sum-is ∙ ap (λ n. sum +ℤ n) number-is

-- ---- numbers one by one

pub all-push : {X : Type 0} (P : X → Type 0) (xs : List X) (x : X) → AllByRecursion P xs → P x → AllByRecursion P (xs ++ x ∷ [])
all-push P [] x h p = (p, tt)
all-push P (y ∷ xs) x h p = (h.0, all-push P xs x h.1 p)

-- one number more changes the sum at its index
pub added-push : (sums numbers : List ℤ) (n d : ℤ) → length numbers < length sums
    → added sums (numbers ++ n ∷ []) ≡ set (added sums numbers) (length numbers) (get_or (added sums numbers) (length numbers) d +ℤ n)
added-push [] numbers n d lt = absurd (omega (arith, lt))
added-push (m ∷ sums) [] n d lt = added-nil m n sums
  where
    added-nil : (m n : ℤ) (sums : List ℤ) → (m +ℤ n) ∷ added sums [] ≡ (m +ℤ n) ∷ sums
    added-nil m n [] = refl
    added-nil m n (s ∷ sums) = refl
added-push (m ∷ sums) (k ∷ numbers) n d lt = ap (λ l. (m +ℤ k) ∷ l) (added-push sums numbers n d (omega (arith, lt)))

pub length-added : (sums numbers : List ℤ) → length (added sums numbers) ≡ length sums
length-added [] numbers = refl
length-added (m ∷ sums) [] = refl
length-added (m ∷ sums) (n ∷ numbers) = ap suc (length-added sums numbers)

-- numbers beyond the sums are not added
pub added-take : {X : Type 0} (number : X → ℤ) (sums : List ℤ) (xs : List X) (k : ℕ) → k ≡ min (length sums) (length xs)
    → added sums (map number (take k xs)) ≡ added sums (map number xs)
added-take number [] xs k e = refl
added-take number (m ∷ sums) [] zero e = refl
added-take number (m ∷ sums) [] (suc k) e = refl
added-take number (m ∷ sums) (x ∷ xs) zero e = absurd (omega (arith, e))
added-take number (m ∷ sums) (x ∷ xs) (suc k) e = ap (λ l. (m +ℤ number x) ∷ l) (added-take number sums xs k (omega (arith, e)))

pub added-none : (sums : List ℤ) → sums ≡ added sums []
added-none [] = refl
added-none (m ∷ sums) = refl

-- one number more is added to the sum at its index
module _ {X : Type 0} (number : X → ℤ) (sums now : List ℤ) (xs : List X) (k : ℕ) (d : X) (n : ℤ) (same : now ≡ added sums (map number (take k xs)))
    (inside : k < length sums) (within : k < length xs) (is : n ≡ number (get_or xs k d)) where
  taken-more : map number (take (k + 1) xs) ≡ map number (take k xs) ++ n ∷ []
  taken-more = map_more number xs k d within ∙ ap (λ m. map number (take k xs) ++ m ∷ []) (sym is)

  pub added-more : (total : ℤ) → total ≡ get_or now k (pos 0) +ℤ n → set now k total ≡ added sums (map number (take (k + 1) xs))
  added-more total e =
      let done = map number (take k xs) in
      let count : length done ≡ k = length-map (take k xs) number ∙ length-take-le k xs (omega (arith, within)) in
      ap (set now k) e ∙ ap (λ l. set l k (get_or l k (pos 0) +ℤ n)) same
      ∙ ap (λ j. set (added sums done) j (get_or (added sums done) j (pos 0) +ℤ n)) (sym count)
      ∙ sym (added-push sums done n (pos 0) (omega (arith, count, inside))) ∙ ap (added sums) (sym taken-more)

  pub numbers-more : AllByRecursion IsFieldNumber (map number (take k xs)) → IsFieldNumber n
      → AllByRecursion IsFieldNumber (map number (take (k + 1) xs))
  numbers-more done few = subst (AllByRecursion IsFieldNumber) (sym taken-more) (all-push IsFieldNumber (map number (take k xs)) n done few)
