use Rattle.std.proofs.Common.{◌≡◌, ◌+◌, map, slice_get, Some, ap, sym, ◌∙◌, subst, rules}
use Rattle.std.specs.List.{IsDistinct}
use Rattle.std.specs.Map.{values_of}
use Rattle.hist_entries.specs.RowPlaces.{most_rows}
use Rattle.hist_entries.specs.Numbers.{AreWithin}
use Rattle.hist_entries.specs.Hits.{number_at}
use Rattle.hist_entries.specs.HistEntries.{same_key}
use Rattle.hist_entries.specs.RowPlaces.{entry_keys}
use Rattle.hist_entries.specs.KeptEntries.{entries_in, AreCounted}
use Rattle.hist_entries.proofs.TableLemmas.{tally-counted, counted_at-is, counted-more, keys-counted, distinct-is}
use Rattle.hist_entries.proofs.entries.count_row.Goals as goal

pub count-requires-clause-hitcount : goal.count-requires-clause-hitcount
count-requires-clause-hitcount c =
    let at : Some c.in-Some.tally.now ≡ slice_get (values_of c.args.entries.now.entries) c.args.index = search rules in
    (tally-counted most_rows c.args.entries.now.entries c.args.index c.in-Some.tally.now at c.requires.counted).0

pub count-requires-clause-sums : goal.count-requires-clause-sums
count-requires-clause-sums c =
    let at : Some c.in-Some.tally.now ≡ slice_get (values_of c.args.entries.now.entries) c.args.index = search rules in
    (tally-counted most_rows c.args.entries.now.entries c.args.index c.in-Some.tally.now at c.requires.counted).1

pub returns-clause-entries : goal.returns-clause-entries
returns-clause-entries c =
    let at : Some c.in-Some.tally.now ≡ slice_get (values_of c.args.entries.now.entries) c.args.index = search rules in
    counted_at-is (map (number_at c.args.emission.now) c.args.operands.now) c.args.entries.now.entries c.args.index c.in-Some.tally.now c.count.new.self at
    c.count.ensures.hitcount c.count.ensures.sums

pub returns-clause-counted : goal.returns-clause-counted
returns-clause-counted c = λ rows h.
    let at : Some c.in-Some.tally.now ≡ slice_get (values_of c.args.entries.now.entries) c.args.index = search rules in
    let numbers = map (number_at c.args.emission.now) c.args.operands.now in
    let is = counted_at-is numbers c.args.entries.now.entries c.args.index c.in-Some.tally.now c.count.new.self at c.count.ensures.hitcount c.count.ensures.sums in
    subst (AreCounted (rows + 1)) (sym is)
    (counted-more rows numbers c.args.entries.now.entries c.args.index c.in-Some.tally.now at
    (λ within. subst (AreWithin (rows + 1)) c.count.ensures.sums (c.count.ensures.within rows within)) h)

pub returns-clause-distinct : goal.returns-clause-distinct
returns-clause-distinct c =
    let at : Some c.in-Some.tally.now ≡ slice_get (values_of c.args.entries.now.entries) c.args.index = search rules in
    let numbers = map (number_at c.args.emission.now) c.args.operands.now in
    let is = counted_at-is numbers c.args.entries.now.entries c.args.index c.in-Some.tally.now c.count.new.self at c.count.ensures.hitcount c.count.ensures.sums in
    subst (IsDistinct same_key) (sym (ap entry_keys is ∙ keys-counted numbers c.args.index (entries_in c.args.entries.now.entries)))
    (distinct-is c.args.entries.now.entries c.get_index_mut.ensures.unique)
