-- Hist triggers with the rows that they counted and the lines that show them, worked by hand (histogram.rst, "hist triggers"). The checker computes
-- them: which keys have entries, in which order entries come, what they sum up to, and how buckets are shown.
use Rattle.std.specs.Prelude.{◌≡◌, ◌^◌, ◌-◌, ℕ, pos, neg_ℤ, false, List, [], ◌∷◌, ◌++◌, map, Result, Ok, Err, codes}
use Rattle.std.specs.List.{flat_map}
use Rattle.trace_format.specs.declared.event.Field.{Field}
use Rattle.trace_format.specs.declared.kind.Kind.TheVariants.{Number}
use Rattle.trace_format.specs.declared.kind.NumberType.TheVariants.{U32}
use Rattle.trace_format.specs.Cells.{Datum, Whole, Bytes}
use Rattle.trace_format.specs.Definitions.{Definition}
use Rattle.trace_format.specs.Operands.{Emission}
use Rattle.trace_trigger.specs.declared.fault.TriggerFault.{TriggerFault}
use Rattle.trace_trigger.specs.HistSpecs.{SpecSeen}
use Rattle.trace_trigger.specs.HistTexts.{spec_of}
use Rattle.trace_trigger.specs.HistExamples.{tick, move}
use Rattle.trace_hist.specs.TriggerHits.{hit_of}
use Rattle.trace_hist.specs.Groups.{grouped}
use Rattle.trace_text.specs.TriggerText.{ShownHist}
use Rattle.trace_text.specs.HistText.{one_hist}

-- ---- rows

-- `tri u32 a; u32 b; u32 c`
abbrev pub number_field : List ℕ → Field
number_field name = record { name = name; kind = Number U32 }

abbrev pub tri : Definition
tri = record { name = codes "tri"; fields = number_field (codes "a") ∷ number_field (codes "b") ∷ number_field (codes "c") ∷ [] }

-- a number from 0 on, and one below 0
abbrev pub up : ℕ → Datum
up n = Whole (pos n)

abbrev pub below : ℕ → Datum
below n = Whole (neg_ℤ (pos n))

abbrev pub three : ℕ → ℕ → ℕ → List Datum
three a b c = up a ∷ up b ∷ up c ∷ []

abbrev pub moved : List ℕ → Datum → List Datum
moved who d = Bytes who ∷ d ∷ []

-- what process 7 emits on CPU 0
abbrev pub emitted : List Datum → Emission
emitted values = record { values = values; cpu = 0; pid = pos 7 }

-- ---- what they come to

-- a trigger written for an event, room for so many entries, rows that it counts, and the lines of its histogram
pub record HistExample : Type 0 where
  pub event : Definition
  pub trigger : List ℕ
  pub size : ℕ
  pub rows : List (List Datum)
  pub lines : List (List ℕ)

-- the histogram of what a trigger says, with that room, when it has counted the rows
abbrev pub histogram_of : HistExample → SpecSeen → ShownHist
histogram_of e spec = record {
  spec = record spec { size = e.size };
  paused = false;
  table = grouped (record spec { size = e.size }) (map (λ values. hit_of spec (emitted values)) e.rows);
  rules = spec.sort_sources;
}

-- and its text; none of a trigger that is refused
abbrev pub text_of : HistExample → Result SpecSeen TriggerFault → List ℕ
text_of e (Ok spec) = one_hist (histogram_of e spec)
text_of e (Err fault) = []

abbrev pub IsShown : HistExample → Type 0
IsShown e = text_of e (spec_of e.event e.trigger) ≡ flat_map (λ line. line ++ codes "\n") e.lines

-- the lines of a histogram: those of its trigger and of its entries, and the totals
abbrev pub histogram : List ℕ → List (List ℕ) → List ℕ → List ℕ → List ℕ → List (List ℕ)
histogram trigger entries hits count dropped =
    codes "# event histogram"
    ∷ codes "#"
    ∷ (codes "# trigger info: " ++ trigger ++ codes " [active]")
    ∷ codes "#"
    ∷ codes ""
    ∷ entries
    ++ codes ""
    ∷ codes "Totals:"
    ∷ (codes "    Hits: " ++ hits)
    ∷ (codes "    Entries: " ++ count)
    ∷ (codes "    Dropped: " ++ dropped)
    ∷ []

-- ---- entries and their order

-- sums go below 0; of two entries with as many hits the one whose key came first is first, though its key is the greater one
abbrev pub sums_and_ties : HistExample
sums_and_ties = record {
  event = move;
  trigger = codes "hist:keys=who:vals=d:sort=hitcount.descending";
  size = 2048;
  rows = moved (codes "b") (below 5)
      ∷ moved (codes "a") (up 2)
      ∷ moved (codes "b") (up 1)
      ∷ moved (codes "a") (below 9)
      ∷ moved (codes "c") (up 0)
      ∷ [];
  lines = histogram (codes "hist:keys=who:vals=hitcount,d:sort=hitcount.descending:size=2048") (codes "{ who: b                } hitcount:          2  d:         -4"
      ∷ codes "{ who: a                } hitcount:          2  d:         -7"
      ∷ codes "{ who: c                } hitcount:          1  d:          0"
      ∷ []) (codes "5") (codes "3") (codes "0");
}

-- by one key downwards, then by another upwards
abbrev pub two_sort_keys : HistExample
two_sort_keys = record {
  event = tri;
  trigger = codes "hist:keys=a,b:vals=c:sort=a.descending,b";
  size = 2048;
  rows = three 1 2 3 ∷ three 1 1 4 ∷ three 2 0 5 ∷ three 1 2 6 ∷ [];
  lines = histogram (codes "hist:keys=a,b:vals=hitcount,c:sort=a.descending,b:size=2048") (codes "{ a:          2, b:          0 } hitcount:          1  c:          5"
      ∷ codes "{ a:          1, b:          1 } hitcount:          1  c:          4"
      ∷ codes "{ a:          1, b:          2 } hitcount:          2  c:          9"
      ∷ []) (codes "4") (codes "3") (codes "0");
}

-- by one sum, then by another: the hitcount does not matter
abbrev pub sorted_by_sums : HistExample
sorted_by_sums = record {
  event = tri;
  trigger = codes "hist:keys=a:vals=b,c:sort=c,b.descending";
  size = 2048;
  rows = three 1 2 3 ∷ three 2 9 7 ∷ three 1 5 4 ∷ three 3 1 1 ∷ [];
  lines = histogram (codes "hist:keys=a:vals=hitcount,b,c:sort=c,b.descending:size=2048") (codes "{ a:          3 } hitcount:          1  b:          1  c:          1"
      ∷ codes "{ a:          2 } hitcount:          1  b:          9  c:          7"
      ∷ codes "{ a:          1 } hitcount:          2  b:          7  c:          7"
      ∷ []) (codes "4") (codes "3") (codes "0");
}

-- the first two keys have entries, and go on counting; each row of another key is dropped
abbrev pub full_table : HistExample
full_table = record {
  event = tick;
  trigger = codes "hist:keys=n";
  size = 2;
  rows = map (λ n. up n ∷ []) (1 ∷ 2 ∷ 3 ∷ 1 ∷ 3 ∷ []);
  lines = histogram (codes "hist:keys=n:vals=hitcount:sort=hitcount:size=2")
      (codes "{ n:          2 } hitcount:          1" ∷ codes "{ n:          1 } hitcount:          2" ∷ []) (codes "3") (codes "2") (codes "2");
}

-- ---- buckets

-- the power of 2 that a number is at most and the next lower one is below; 0 and 1 share the first
abbrev pub powers : HistExample
powers = record {
  event = tick;
  trigger = codes "hist:keys=n.log2:sort=n";
  size = 2048;
  rows = map (λ n. up n ∷ []) (0 ∷ 1 ∷ 2 ∷ 3 ∷ 4 ∷ 5 ∷ 8 ∷ 9 ∷ (2 ^ 64 - 1) ∷ []);
  lines = histogram (codes "hist:keys=n.log2:vals=hitcount:sort=n:size=2048") (codes "{ n:      ~ 2^0 } hitcount:          2"
      ∷ codes "{ n:      ~ 2^1 } hitcount:          1"
      ∷ codes "{ n:      ~ 2^2 } hitcount:          2"
      ∷ codes "{ n:      ~ 2^3 } hitcount:          2"
      ∷ codes "{ n:      ~ 2^4 } hitcount:          1"
      ∷ codes "{ n:     ~ 2^64 } hitcount:          1"
      ∷ []) (codes "9") (codes "6") (codes "0");
}

-- ten numbers each, also below 0
abbrev pub ranges : HistExample
ranges = record {
  event = move;
  trigger = codes "hist:keys=d.buckets=10:sort=d";
  size = 2048;
  rows = map (moved (codes "b")) (below 1 ∷ up 0 ∷ up 9 ∷ up 10 ∷ []);
  lines = histogram (codes "hist:keys=d.buckets=10:vals=hitcount:sort=d:size=2048")
      (codes "{ d:   ~ -10--1 } hitcount:          1" ∷ codes "{ d:      ~ 0-9 } hitcount:          2" ∷ codes "{ d:    ~ 10-19 } hitcount:          1" ∷ [])
      (codes "4") (codes "3") (codes "0");
}

-- below 0 the two's complement pattern of 64 bits, which takes more than the 10 columns
abbrev pub hexadecimals : HistExample
hexadecimals = record {
  event = move;
  trigger = codes "hist:keys=d.hex";
  size = 2048;
  rows = map (moved (codes "b")) (below 1 ∷ up 255 ∷ []);
  lines = histogram (codes "hist:keys=d.hex:vals=hitcount:sort=hitcount:size=2048")
      (codes "{ d: ffffffffffffffff } hitcount:          1" ∷ codes "{ d:         ff } hitcount:          1" ∷ []) (codes "2") (codes "2") (codes "0");
}
