use Rattle.history_laws.proofs.HistogramRows.{histograms_are_accounted_for, histograms_keep_their_entries}
use Rattle.history_laws.proofs.files.histograms_are_accounted_for.Goals as goal

pub returns-clause-rows : goal.returns-clause-rows
returns-clause-rows c =
    let rows = c.rows_are_accounted_for.ensures in
    histograms_are_accounted_for rows.told rows.hitcounts rows.sums rows.all_sums rows.fit rows.full rows.ties

pub returns-clause-stay : goal.returns-clause-stay
returns-clause-stay c = histograms_keep_their_entries c.rows_are_accounted_for.ensures.stay
