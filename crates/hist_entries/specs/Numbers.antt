-- Which numbers a field, a CPU or a process may have, and what they sum up to.
use Rattle.std.specs.Prelude.{ℕ, ◌*◌, ◌^◌, ◌-◌, ℤ, pos, neg_ℤ, ◌≤ℤ◌, List}
use Rattle.std.specs.List.{AllByRecursion}

-- from -2^63 to 2^64 - 1
abbrev pub IsFieldNumber : ℤ → Type 0
IsFieldNumber n = (neg_ℤ (pos (2 ^ 63)) ≤ℤ n) × (n ≤ℤ pos (2 ^ 64 - 1))

-- sums of so many such numbers
abbrev pub IsWithin : ℕ → ℤ → Type 0
IsWithin rows sum = (neg_ℤ (pos (2 ^ 63 * rows)) ≤ℤ sum) × (sum ≤ℤ pos ((2 ^ 64 - 1) * rows))

abbrev pub AreWithin : ℕ → List ℤ → Type 0
AreWithin rows sums = AllByRecursion (IsWithin rows) sums
