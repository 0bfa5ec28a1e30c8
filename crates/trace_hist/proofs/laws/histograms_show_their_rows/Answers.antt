use Rattle.trace_hist.proofs.Histograms as lemmas
use Rattle.trace_hist.proofs.laws.histograms_show_their_rows.Goals as goal

pub returns-clause-grouped : goal.returns-clause-grouped
returns-clause-grouped c = lemmas.tables_are_grouped

pub returns-clause-stays : goal.returns-clause-stays
returns-clause-stays c = lemmas.standing_is_of_the_table

pub returns-clause-counted : goal.returns-clause-counted
returns-clause-counted c = lemmas.counted_are_the_rows
