use Rattle.mount_service.proofs.RowLemmas.{show_emissions, show_rows}
use Rattle.mount_service.proofs.laws.records_show_what_was_emitted.Goals as goal

pub returns-clause-rows : goal.returns-clause-rows
returns-clause-rows c = show_rows c.records_show_their_rows.ensures c.pasts_are_done.ensures c.pasts_fit_their_types.ensures

pub returns-clause-kept : goal.returns-clause-kept
returns-clause-kept c =
    show_emissions c.kept_records_show_emissions.ensures.live c.kept_records_show_emissions.ensures.spare c.pasts_are_done.ensures c.pasts_fit_their_types.ensures
