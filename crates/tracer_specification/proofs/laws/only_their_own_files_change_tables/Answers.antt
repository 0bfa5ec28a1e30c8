use Rattle.tracer_specification.proofs.AskedTables.{clears_leave_none, joining_pauses_or_leaves, other_requests_leave_hist_triggers, other_requests_leave_tables, other_triggers_leave_tables, tables_are_asked_through_each}
use Rattle.tracer_specification.proofs.Pauses.{only_asking_pauses, pauses_count_nothing}
use Rattle.tracer_specification.proofs.laws.only_their_own_files_change_tables.Goals as goal

pub returns-clause-asked : goal.returns-clause-asked
returns-clause-asked c = tables_are_asked_through_each

pub returns-clause-state : goal.returns-clause-state
returns-clause-state c = only_asking_pauses

pub returns-clause-pause : goal.returns-clause-pause
returns-clause-pause c = pauses_count_nothing

pub returns-clause-clear : goal.returns-clause-clear
returns-clause-clear c = clears_leave_none

pub returns-clause-hists : goal.returns-clause-hists
returns-clause-hists c = other_requests_leave_hist_triggers

pub returns-clause-tables : goal.returns-clause-tables
returns-clause-tables c = other_requests_leave_tables

pub returns-clause-joined : goal.returns-clause-joined
returns-clause-joined c = joining_pauses_or_leaves

pub returns-clause-others : goal.returns-clause-others
returns-clause-others c = other_triggers_leave_tables
