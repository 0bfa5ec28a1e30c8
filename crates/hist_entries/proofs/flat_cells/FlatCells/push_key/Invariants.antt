use Rattle.std.proofs.Common.{◌≡◌, ◌++◌, map, take}
use Rattle.hist_entries.specs.KeptEntries.{datum_in}
use Rattle.hist_entries.proofs.flat_cells.FlatCells.push_key.Given as goal

abbrev pub invariant-loop-cell : goal.invariant-loop-cell
invariant-loop-cell l = l.self ≡ l.initial.self ++ map datum_in (take l.cell-index l.key)
