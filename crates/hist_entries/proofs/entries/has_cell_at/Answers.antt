use Rattle.std.proofs.Common.{◌≡◌, ◌∷◌, [], List, true, Some, slice_get, rules}
use Rattle.trace_format.specs.Cells.{Datum}
use Rattle.hist_entries.specs.HistEntries.{same_key}
use Rattle.hist_entries.specs.KeptEntries.{cells_in, datum_read}
use Rattle.hist_entries.proofs.TableLemmas.{key-at}
use Rattle.hist_entries.proofs.entries.has_cell_at.Goals as goal

pub returns-in-Some : goal.returns-in-Some
returns-in-Some c = λ h.
    let key : List Datum = datum_read c.args.cell ∷ [] in
    let at : Some (c.in-Some.cells.now, c.in-Some.field-0-1.now) ≡ slice_get c.args.entries.now.entries c.args.index = search rules in
    let same : same_key (cells_in c.in-Some.cells.now) key ≡ true = search rules in
    key-at c.args.entries.now.entries c.args.index _ key at same
