use Rattle.history_laws.proofs.IdleEmissions.{idle_is_wanted_by_none}
use Rattle.history_laws.proofs.IdleEvents.{idle_emissions_leave_answers, idle_emissions_leave_reads, idle_emissions_leave_waiting, idle_emissions_leave_wants, idle_emissions_move_the_clock, idle_emissions_only_tick, idle_emissions_take_only_room}
use Rattle.history_laws.proofs.laws.idle_emissions_only_tick.Goals as goal

pub returns-clause-idle : goal.returns-clause-idle
returns-clause-idle c = idle_is_wanted_by_none

pub returns-clause-ticks : goal.returns-clause-ticks
returns-clause-ticks c = idle_emissions_only_tick

pub returns-clause-wants : goal.returns-clause-wants
returns-clause-wants c = idle_emissions_leave_wants

pub returns-clause-answers : goal.returns-clause-answers
returns-clause-answers c = idle_emissions_leave_answers

pub returns-clause-room : goal.returns-clause-room
returns-clause-room c = idle_emissions_take_only_room

pub returns-clause-clock : goal.returns-clause-clock
returns-clause-clock c = idle_emissions_move_the_clock

pub returns-clause-reads : goal.returns-clause-reads
returns-clause-reads c = idle_emissions_leave_reads

pub returns-clause-waiting : goal.returns-clause-waiting
returns-clause-waiting c = idle_emissions_leave_waiting
