-- Key modifiers: how each is written after a key's name, and what such a suffix says (histogram.rst, "hist triggers").
use Rattle.std.specs.Prelude.{◌≡◌, ℕ, ◌-◌, ◌≤◌, ◌^◌, false, nat_lt, if◌then◌else◌, bytes_eq, codes, List, [], ◌++◌, take, drop, Option, None, Some}
use Rattle.trace_lex.specs.Decimals.{decimal_number, has_leading_zero, up_to}
use Rattle.trace_format.specs.declared.modifier.Modifier.{Modifier}
use Rattle.trace_format.specs.declared.modifier.Modifier.TheVariants.{Plain, Hex, Log2, Buckets}

-- ---- how each is written

-- digits write how many values a bucket has: from 1 to 2^32 - 1, with no leading 0
pub record IsBucketSize (digits : List ℕ) (size : ℕ) : Type 0 where
  pub number : decimal_number digits ≡ Some size
  pub plain : has_leading_zero digits ≡ false
  pub least : 1 ≤ size
  pub most : size ≤ 2 ^ 32 - 1

abbrev pub IsSuffix : Modifier → List ℕ → Type 0
IsSuffix Plain suffix = suffix ≡ []
IsSuffix Hex suffix = suffix ≡ codes ".hex"
IsSuffix Log2 suffix = suffix ≡ codes ".log2"
IsSuffix (Buckets size) suffix = (digits : List ℕ) × (suffix ≡ codes ".buckets=" ++ digits) × IsBucketSize digits size

-- ---- what a suffix says

abbrev pub buckets_from : Option ℕ → Option Modifier
buckets_from None = None
buckets_from (Some size) = if nat_lt 0 size then Some (Buckets size) else None

abbrev pub buckets_of : List ℕ → Option Modifier
buckets_of digits = if has_leading_zero digits then None else buckets_from (up_to (2 ^ 32 - 1) (decimal_number digits))

-- none, if no modifier is written so
abbrev pub modifier_of : List ℕ → Option Modifier
modifier_of suffix = if bytes_eq suffix [] then Some Plain
    else if bytes_eq suffix (codes ".hex") then Some Hex
    else if bytes_eq suffix (codes ".log2") then Some Log2
    else if bytes_eq (take 9 suffix) (codes ".buckets=") then buckets_of (drop 9 suffix)
    else None
