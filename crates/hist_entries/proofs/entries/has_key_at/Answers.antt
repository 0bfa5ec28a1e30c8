use Rattle.std.proofs.Common.{◌≡◌, true, Some, slice_get, rules}
use Rattle.hist_entries.specs.HistEntries.{same_key}
use Rattle.hist_entries.specs.KeptEntries.{cells_in, key_of}
use Rattle.hist_entries.proofs.TableLemmas.{key-at}
use Rattle.hist_entries.proofs.entries.has_key_at.Goals as goal

pub returns-in-Some : goal.returns-in-Some
returns-in-Some c = λ h.
    let key = key_of c.args.keys.now c.args.emission.now in
    let at : Some (c.in-Some.cells.now, c.in-Some.field-0-1.now) ≡ slice_get c.args.entries.now.entries c.args.index = search rules in
    let same : same_key (cells_in c.in-Some.cells.now) key ≡ true = search rules in
    key-at c.args.entries.now.entries c.args.index _ key at same
