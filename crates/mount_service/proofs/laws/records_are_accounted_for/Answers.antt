use Rattle.mount_service.proofs.RecordLemmas.{accounted_for, tell_all}
use Rattle.mount_service.proofs.laws.records_are_accounted_for.Goals as goal

pub returns-clause-services : goal.returns-clause-services
returns-clause-services c = accounted_for c.rings_count_what_was_done.ensures.recorded c.rings_count_what_was_done.ensures.all c.emissions_are_accounted_for.ensures.both c.emissions_are_accounted_for.ensures.handed_out c.pasts_are_done.ensures

pub returns-clause-stats : goal.returns-clause-stats
returns-clause-stats c = tell_all c.rings_count_what_was_done.ensures.recorded c.emissions_are_accounted_for.ensures.shown c.reads_show_the_past.ensures.stats
