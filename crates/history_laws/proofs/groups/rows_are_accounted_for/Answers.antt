use Rattle.history_laws.proofs.DistinctRows.{rows_are_told, entries_stay, entries_fit, dropped_is_full}
use Rattle.history_laws.proofs.TiedRows.{ties_are_by_first_row}
use Rattle.history_laws.proofs.GroupedSums.{hitcounts_are_hits, sums_are_of_their_rows, sums_are_of_counted_rows}
use Rattle.history_laws.proofs.groups.rows_are_accounted_for.Goals as goal

pub returns-clause-told : goal.returns-clause-told
returns-clause-told c = rows_are_told

pub returns-clause-stay : goal.returns-clause-stay
returns-clause-stay c = entries_stay

pub returns-clause-fit : goal.returns-clause-fit
returns-clause-fit c = entries_fit

pub returns-clause-full : goal.returns-clause-full
returns-clause-full c = dropped_is_full

pub returns-clause-hitcounts : goal.returns-clause-hitcounts
returns-clause-hitcounts c = hitcounts_are_hits

pub returns-clause-sums : goal.returns-clause-sums
returns-clause-sums c = sums_are_of_their_rows

pub returns-clause-all_sums : goal.returns-clause-all_sums
returns-clause-all_sums c = sums_are_of_counted_rows

pub returns-clause-ties : goal.returns-clause-ties
returns-clause-ties c = ties_are_by_first_row
