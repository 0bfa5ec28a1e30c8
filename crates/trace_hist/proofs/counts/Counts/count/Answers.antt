use Rattle.std.proofs.Common.{◌≤◌, map, ap, ◌∙◌, subst, arith}
use Rattle.std.specs.List.{IsDistinct}
use Rattle.hist_entries.specs.Hits.{number_at}
use Rattle.trace_hist.specs.TriggerHits.{hit_of}
use Rattle.hist_entries.specs.HistEntries.{same_key}
use Rattle.hist_entries.specs.RowPlaces.{entry_keys, most_rows}
use Rattle.hist_entries.specs.KeptEntries.{entries_in, counted_at}
use Rattle.trace_hist.specs.Stored.{Kept}
use Rattle.hist_entries.proofs.TableLemmas.{counted-le, keys-counted}
use Rattle.trace_hist.proofs.Counting.{reserved-at, seen-at, seen-dropped, not-unknown, left-shown, left-size, left-end}
use Rattle.trace_hist.proofs.counts.Counts.count.Goals as goal

pub count_row-requires-clause-index : goal.count_row-requires-clause-index
count_row-requires-clause-index c =
    (reserved-at c.self.inside c.args.self.now (hit_of c.args.by.now c.args.emission.now) c.self.view_is c.requires.place c.in-At.index c.in-At.is).0

pub count_row-requires-clause-counted : goal.count_row-requires-clause-counted
count_row-requires-clause-counted c =
    let hits = ap (λ (k : Kept). k.table.hits) c.self.view_is in
    let few : c.self.inside.hits ≤ most_rows = omega (arith, hits, c.requires.few) in
    counted-le c.self.inside.hits most_rows (entries_in c.self.inside.kept.entries.entries) few c.self.invariant.rows

pub invariant_of-self : goal.invariant_of-self
invariant_of-self c =
    let h = c.self.inside in
    let distinct = subst (IsDistinct same_key)
    (ap entry_keys c.count_row.ensures.entries ∙ keys-counted (map (number_at c.args.emission.now) c.value_sources.result.now) c.in-At.index (entries_in h.kept.entries.entries))
    c.count_row.ensures.distinct in
    let hit = hit_of c.args.by.now c.args.emission.now in
    let e = c.count_row.ensures.entries
    ∙ ap (λ ops. counted_at (map (number_at c.args.emission.now) ops) c.in-At.index (entries_in h.kept.entries.entries)) c.value_sources.ensures in
    record {
      shown = left-shown h c.args.self.now hit c.self.view_is c.requires.place c.self.invariant c.in-At.index
          c.shown_with-self-inside.result c.in-At.is distinct c.shown_with-self-inside.ensures.below c.shown_with-self-inside.ensures.above c.count_row.new.entries.entries e;
      size = left-size h c.args.self.now hit c.self.view_is c.requires.place c.self.invariant c.in-At.index
          c.shown_with-self-inside.result c.in-At.is distinct c.shown_with-self-inside.ensures.below c.shown_with-self-inside.ensures.above c.count_row.new.entries.entries e;
      end = left-end h c.args.self.now hit c.self.view_is c.requires.place c.self.invariant c.in-At.index
          c.shown_with-self-inside.result c.in-At.is distinct c.shown_with-self-inside.ensures.below c.shown_with-self-inside.ensures.above c.count_row.new.entries.entries e;
      rows = c.count_row.ensures.counted h.hits c.self.invariant.rows;
    }

pub returns-in-At : goal.returns-in-At
returns-in-At c =
    let h = c.self.inside in
    let distinct = subst (IsDistinct same_key)
    (ap entry_keys c.count_row.ensures.entries ∙ keys-counted (map (number_at c.args.emission.now) c.value_sources.result.now) c.in-At.index (entries_in h.kept.entries.entries))
    c.count_row.ensures.distinct in
    let hit = hit_of c.args.by.now c.args.emission.now in
    let e = c.count_row.ensures.entries
    ∙ ap (λ ops. counted_at (map (number_at c.args.emission.now) ops) c.in-At.index (entries_in h.kept.entries.entries)) c.value_sources.ensures in
    seen-at h c.args.self.now hit c.self.view_is c.requires.place c.self.invariant c.in-At.index c.shown_with-self-inside.result
    c.in-At.is distinct c.shown_with-self-inside.ensures.below c.shown_with-self-inside.ensures.above c.count_row.new.entries.entries e

pub returns-in-Dropped : goal.returns-in-Dropped
returns-in-Dropped c =
    seen-dropped c.self.inside c.args.self.now (hit_of c.args.by.now c.args.emission.now) c.self.view_is c.requires.place c.in-Dropped.is

pub unreachable-requires : goal.unreachable-requires
unreachable-requires c =
    not-unknown c.self.inside c.args.self.now (hit_of c.args.by.now c.args.emission.now) c.self.view_is c.requires.place c.in-Unknown.is
