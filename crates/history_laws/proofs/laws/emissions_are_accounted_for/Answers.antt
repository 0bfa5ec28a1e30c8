use Rattle.history_laws.proofs.AccountedEmissions.{emissions_are_accounted_for, emissions_are_shown_or_counted, shown_counts_account_for_emissions}
use Rattle.history_laws.proofs.laws.emissions_are_accounted_for.Goals as goal

pub returns-clause-both : goal.returns-clause-both
returns-clause-both c = emissions_are_accounted_for c.rings_count_what_was_done.ensures.recorded

pub returns-clause-handed_out : goal.returns-clause-handed_out
returns-clause-handed_out c =
    emissions_are_shown_or_counted c.rings_count_what_was_done.ensures.recorded c.rings_count_what_was_done.ensures.read

pub returns-clause-shown : goal.returns-clause-shown
returns-clause-shown c = shown_counts_account_for_emissions c.rings_count_what_was_done.ensures.recorded
