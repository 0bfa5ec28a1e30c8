-- What one more row does to a histogram: the way in which it is kept. That this agrees with the grouping of all rows is proved in
-- proofs/GroupLaws.antt.
use Rattle.std.specs.Prelude.{◌≡◌, ℕ, pos, ◌+◌, Bool, true, false, nat_lt, if◌then◌else◌, [], ◌∷◌, ◌++◌, length, map, replicate}
use Rattle.trace_trigger.specs.HistSpecs.{SpecSeen}
use Rattle.hist_entries.specs.Hits.{Hit}
use Rattle.hist_entries.specs.HistEntries.{Entry, same_key, is_among, added}
use Rattle.hist_entries.specs.RowPlaces.{entry_keys, Unknown}
use Rattle.hist_entries.specs.KeptEntries.{counted_once}
use Rattle.trace_hist.specs.Groups.{Table}
use Rattle.trace_hist.specs.Stored.{Kept}

abbrev pub bumped : Hit → Entry → Entry
bumped hit entry = if same_key entry.key hit.key
    then counted_once hit.numbers entry
    else entry

abbrev pub first_entry : ℕ → Hit → Entry
first_entry width hit = record { key = hit.key; hitcount = 1; sums = added (replicate width (pos 0)) hit.numbers }

-- by whether the row's key has an entry, and whether there is room for one
abbrev pub stepped : Bool → Bool → ℕ → Table → Hit → Table
stepped true room width table hit =
    record { entries = map (bumped hit) table.entries; hits = table.hits + 1; dropped = table.dropped }
stepped false true width table hit =
    record { entries = table.entries ++ first_entry width hit ∷ []; hits = table.hits + 1; dropped = table.dropped }
stepped false false width table hit = record { entries = table.entries; hits = table.hits; dropped = table.dropped + 1 }

abbrev pub after_row : ℕ → ℕ → Table → Hit → Table
after_row size width table hit =
    stepped (is_among (entry_keys table.entries) hit.key) (nat_lt (length table.entries) size) width table hit

abbrev pub none_kept : ℕ → ℕ → Kept
none_kept size width = record { size = size; width = width; table = record { entries = []; hits = 0; dropped = 0 }; next = Unknown }

-- what was reserved stays reserved
abbrev pub after_hit : Kept → Hit → Kept
after_hit kept hit = record {
  size = kept.size;
  width = kept.width;
  table = after_row kept.size kept.width kept.table hit;
  next = kept.next;
}

-- of what a trigger's histogram has counted
pub record AreOf (spec : SpecSeen) (kept : Kept) : Type 0 where
  pub size : kept.size ≡ spec.size
  pub width : kept.width ≡ length spec.value_sources
