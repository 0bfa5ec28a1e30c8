use Rattle.hist_entries.proofs.TableLemmas.{position-known, position-new}
use Rattle.hist_entries.proofs.entries.index_of_cells.Goals as goal

pub returns-clause-known : goal.returns-clause-known
returns-clause-known c = position-known c.args.cells.now c.args.entries.now.entries c.get_index_of.result c.get_index_of.ensures.index

pub returns-clause-new : goal.returns-clause-new
returns-clause-new c = position-new c.args.cells.now c.args.entries.now.entries c.get_index_of.result c.get_index_of.ensures.index
