-- Key modifiers: the buckets that a key's values are put into (histogram.rst, "hist triggers"). A bucket has a number, by which entries are grouped
-- and sorted.
use Rattle.std.specs.Prelude.{◌≡◌, ◌⊎◌, ℕ, ◌-◌, ◌*◌, ◌^◌, ◌<◌, max, ℤ, pos, neg_ℤ, ◌+ℤ◌, ◌-ℤ◌, ◌≤ℤ◌, ◌<ℤ◌, int_lt, unsigned_abs}
use Rattle.std.specs.List.{prefix_len, range_with_len}
use Rattle.std.specs.Int.{int_rem_euclid}
use Rattle.trace_format.specs.Cells.{Datum, Whole, Bytes}
use Rattle.trace_format.specs.declared.modifier.Modifier.{Modifier}
use Rattle.trace_format.specs.declared.modifier.Modifier.TheVariants.{Plain, Hex, Log2, Buckets}

-- ---- the bucket of a value

-- the least k from 0 with n at most 2^k: so many powers of 2, from 2^0 on, are below n. (No field's number is above 2^64.)
unfoldable pub log2_of : ℤ → ℕ
log2_of n = prefix_len (λ k. int_lt (pos (2 ^ k)) n) (range_with_len 0 64)

-- the greatest multiple of a size that is at most n, also below 0. (No key has buckets of size 0.)
abbrev pub lowest_of : ℕ → ℤ → ℤ
lowest_of size n = n -ℤ int_rem_euclid n (pos (max size 1))

abbrev pub bucket_of : Modifier → ℤ → ℤ
bucket_of Plain n = n
bucket_of Hex n = n
bucket_of Log2 n = pos (log2_of n)
bucket_of (Buckets size) n = lowest_of size n

-- a string is in a bucket of its own
abbrev pub bucket_cell : Modifier → Datum → Datum
bucket_cell modifier (Whole n) = Whole (bucket_of modifier n)
bucket_cell modifier (Bytes bytes) = Bytes bytes

-- the two's complement pattern of 64 bits of a number
abbrev pub pattern_of : ℤ → ℕ
pattern_of n = unsigned_abs (int_rem_euclid n (pos (2 ^ 64)))

-- ---- what lies in a bucket

-- the greatest value of a bucket, by the least. (`-` stops at 0.)
abbrev pub highest_from : ℕ → ℤ → ℤ
highest_from size lowest = lowest +ℤ pos (size - 1)

-- on either side of 0
abbrev pub IsMultiple : ℕ → ℤ → Type 0
IsMultiple size n = (times : ℕ) × ((n ≡ pos (size * times)) ⊎ (n ≡ neg_ℤ (pos (size * times))))

-- what a bucket with this number holds, without saying how it is found
abbrev pub LiesIn : Modifier → ℤ → ℤ → Type 0
LiesIn Plain n bucket = bucket ≡ n
LiesIn Hex n bucket = bucket ≡ n
LiesIn Log2 n bucket = (k : ℕ) × (bucket ≡ pos k) × (n ≤ℤ pos (2 ^ k)) × ((j : ℕ) → j < k → pos (2 ^ j) <ℤ n)
LiesIn (Buckets size) n bucket = IsMultiple size bucket × (bucket ≤ℤ n) × (n ≤ℤ highest_from size bucket)
