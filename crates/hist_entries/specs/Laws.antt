-- The definitions once more, in the words of the subject.
use Rattle.std.specs.Prelude.{◌≡◌, ◌⊎◌, ℕ, ◌-◌, ◌^◌, ◌≤◌, ℤ, pos, neg_ℤ, ◌+ℤ◌, ◌≤ℤ◌, ◌<ℤ◌, List}
use Rattle.trace_format.specs.declared.modifier.Modifier.{Modifier}
use Rattle.trace_format.specs.declared.sort_rule.SortRule.{SortRule}
use Rattle.trace_format.specs.Modifiers.{IsSuffix}
use Rattle.hist_entries.specs.Buckets.{lowest_of, bucket_of, pattern_of, IsMultiple, LiesIn}
use Rattle.hist_entries.specs.HistEntries.{Entry}
use Rattle.hist_entries.specs.PrintOrder.{IsPrintOrder, printed}

-- ---- print order

-- `printed` gives a list in print order
abbrev pub PrintedIsInPrintOrder : Type 0
PrintedIsInPrintOrder = (rules : List SortRule) (entries : List Entry) → IsPrintOrder rules entries (printed rules entries)

-- there is one such list
abbrev pub OnePrintOrder : Type 0
OnePrintOrder =
    (rules : List SortRule) (entries shown other : List Entry) → IsPrintOrder rules entries shown → IsPrintOrder rules entries other → other ≡ shown

-- ---- buckets

-- of each modifier that can be written, a number that a field may have lies in the bucket that is found for it
abbrev pub EachLiesInItsBucket : Type 0
EachLiesInItsBucket =
    (modifier : Modifier) (suffix : List ℕ) (n : ℤ) → IsSuffix modifier suffix → n ≤ℤ pos (2 ^ 64 - 1) → LiesIn modifier n (bucket_of modifier n)

-- and in no other
abbrev pub EachLiesInOneBucket : Type 0
EachLiesInOneBucket =
    (modifier : Modifier) (suffix : List ℕ) (n bucket : ℤ) → IsSuffix modifier suffix → n ≤ℤ pos (2 ^ 64 - 1) → LiesIn modifier n bucket
    → bucket ≡ bucket_of modifier n

-- what is shown of a number in hexadecimal digits is the number, from 0 on, and 2^64 more below 0
abbrev pub PatternIsTwosComplement : Type 0
PatternIsTwosComplement =
    (n : ℤ) → neg_ℤ (pos (2 ^ 63)) ≤ℤ n → n ≤ℤ pos (2 ^ 64 - 1) → (pos (pattern_of n) ≡ n) ⊎ ((n <ℤ pos 0) × (pos (pattern_of n) ≡ n +ℤ pos (2 ^ 64)))

-- no multiple of the size that is at most a number is greater than the least value of the number's bucket
abbrev pub LowestIsGreatestMultiple : Type 0
LowestIsGreatestMultiple = (size : ℕ) (n multiple : ℤ) → 1 ≤ size → IsMultiple size multiple → multiple ≤ℤ n → multiple ≤ℤ lowest_of size n
