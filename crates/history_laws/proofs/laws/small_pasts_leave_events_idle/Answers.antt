use Rattle.history_laws.proofs.IdleExamples.{active-hists-want, instances-want, shared-tables-pause, switches-decide, times-left-want}
use Rattle.history_laws.proofs.laws.small_pasts_leave_events_idle.Goals as goal

pub returns-clause-switches : goal.returns-clause-switches
returns-clause-switches c = switches-decide

pub returns-clause-hists : goal.returns-clause-hists
returns-clause-hists c = active-hists-want

pub returns-clause-shared : goal.returns-clause-shared
returns-clause-shared c = shared-tables-pause

pub returns-clause-times : goal.returns-clause-times
returns-clause-times c = times-left-want

pub returns-clause-instances : goal.returns-clause-instances
returns-clause-instances c = instances-want
