-- The line of an entry of a histogram (histogram.rst, "hist triggers"). How wide numbers and strings are was chosen by this project.
use Rattle.std.specs.Prelude.{ℕ, ◌-◌, false, ℤ, List, ◌++◌, length, replicate, codes}
use Rattle.std.specs.Fmt.{decimal, digits, signed_decimal}
use Rattle.std.specs.List.{flat_map, join_by, zip}
use Rattle.trace_format.specs.Cells.{Datum, Whole, Bytes}
use Rattle.hist_entries.specs.Buckets.{pattern_of, highest_from}
use Rattle.hist_entries.specs.HistEntries.{Entry}
use Rattle.trace_format.specs.declared.key.Key.{Key}
use Rattle.trace_format.specs.declared.modifier.Modifier.{Modifier}
use Rattle.trace_format.specs.declared.modifier.Modifier.TheVariants.{Plain, Hex, Log2, Buckets}

-- the blanks (32) that fill up a string to so many columns; none for a longer string, since `-` stops at 0
abbrev pub fill : ℕ → List ℕ → List ℕ
fill columns text = replicate (columns - length text) 32

abbrev pub on_the_right : ℕ → List ℕ → List ℕ
on_the_right columns text = fill columns text ++ text

-- a bucket by its number, as the key's modifier shows it: a number in decimal digits, or in hexadecimal ones; the power of 2 up to which it
-- goes; its least and its greatest number
abbrev pub bucket_text : Modifier → ℤ → List ℕ
bucket_text Plain n = signed_decimal n
bucket_text Hex n = digits 16 false (pattern_of n)
bucket_text Log2 n = codes "~ 2^" ++ signed_decimal n
bucket_text (Buckets size) n = codes "~ " ++ signed_decimal n ++ codes "-" ++ signed_decimal (highest_from size n)

-- numbers on the right of 10 columns, strings on the left of 16
abbrev pub key_value : Modifier → Datum → List ℕ
key_value modifier (Whole n) = on_the_right 10 (bucket_text modifier n)
key_value modifier (Bytes bytes) = bytes ++ fill 16 bytes

-- a key's name and value
abbrev pub key_text : Key × Datum → List ℕ
key_text key = key.0.name ++ codes ": " ++ key_value key.0.modifier key.1

-- a value's name and sum
abbrev pub sum_text : List ℕ × ℤ → List ℕ
sum_text sum = codes "  " ++ sum.0 ++ codes ": " ++ on_the_right 10 (signed_decimal sum.1)

-- an entry of a trigger with these keys and values
unfoldable pub entry_line : List Key → List (List ℕ) → Entry → List ℕ
entry_line keys values entry =
    codes "{ " ++ join_by key_text (codes ", ") (zip keys entry.key)
    ++ codes " } hitcount: " ++ on_the_right 10 (decimal entry.hitcount)
    ++ flat_map sum_text (zip values entry.sums) ++ codes "\n"
