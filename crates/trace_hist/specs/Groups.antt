-- What a list of rows comes to in a histogram: an entry for each key, with the count of its rows and their sums (histogram.rst).
-- All of it is said of the whole list; that it can be kept row by row is proved in proofs/GroupLaws.antt.
use Rattle.std.specs.Prelude.{ℕ, ℤ, pos, not, List, [], ◌∷◌, length, map, take, replicate, filter}
use Rattle.trace_format.specs.Cells.{Datum}
use Rattle.trace_trigger.specs.HistSpecs.{SpecSeen}
use Rattle.hist_entries.specs.Hits.{Hit}
use Rattle.hist_entries.specs.HistEntries.{Entry, same_key, is_among, added}

-- ---- keys

-- each key once, in order of first occurrence
abbrev pub distinct : List (List Datum) → List (List Datum)
distinct [] = []
distinct (key ∷ keys) = key ∷ filter (λ other. not (same_key key other)) (distinct keys)

abbrev pub keys_of : List Hit → List (List Datum)
keys_of hits = map (λ (hit : Hit). hit.key) hits

-- the keys that have entries: as many of the first distinct ones as there is room for
abbrev pub admitted : ℕ → List Hit → List (List Datum)
admitted size hits = take size (distinct (keys_of hits))

-- ---- entries

abbrev pub with_key : List Datum → List Hit → List Hit
with_key key hits = filter (λ hit. same_key key hit.key) hits

-- the sums of the rows' numbers, from sums on
abbrev pub summed : List ℤ → List Hit → List ℤ
summed sums [] = sums
summed sums (hit ∷ hits) = summed (added sums hit.numbers) hits

-- a key's entry, with so many sums: over all rows that have the key
abbrev pub entry_of : ℕ → List Hit → List Datum → Entry
entry_of width hits key = record {
  key = key;
  hitcount = length (with_key key hits);
  sums = summed (replicate width (pos 0)) (with_key key hits);
}

-- ---- the histogram

-- its entries, in order of first occurrence; how many rows have an entry's key, and how many have none
pub record Table : Type 0 where
  pub entries : List Entry
  pub hits : ℕ
  pub dropped : ℕ

-- what rows come to, with room for so many entries of so many sums
abbrev pub group : ℕ → ℕ → List Hit → Table
group size width hits = record {
  entries = map (entry_of width hits) (admitted size hits);
  hits = length (filter (λ hit. is_among (admitted size hits) hit.key) hits);
  dropped = length (filter (λ hit. not (is_among (admitted size hits) hit.key)) hits);
}

-- the same for a trigger, of rows as triggers read them
unfoldable pub grouped : SpecSeen → List Hit → Table
grouped spec hits = group spec.size (length spec.value_sources) hits
