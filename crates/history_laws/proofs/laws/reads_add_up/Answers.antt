use Rattle.history_laws.proofs.LaterReads.{reads_leave_answers, reads_leave_waiting}
use Rattle.history_laws.proofs.PartedReads.{reads_show_in_turn, reads_leave_the_same}
use Rattle.history_laws.proofs.laws.reads_add_up.Goals as goal

pub returns-clause-shown : goal.returns-clause-shown
returns-clause-shown c = reads_show_in_turn c.least_is_read.ensures.ahead c.least_is_read.ensures.rest

pub returns-clause-left : goal.returns-clause-left
returns-clause-left c = reads_leave_the_same c.least_is_read.ensures.ahead c.least_is_read.ensures.rest

pub returns-clause-later : goal.returns-clause-later
returns-clause-later c = reads_leave_answers c.least_is_read.ensures.ahead c.least_is_read.ensures.rest

pub returns-clause-waiting : goal.returns-clause-waiting
returns-clause-waiting c = reads_leave_waiting c.least_is_read.ensures.ahead c.least_is_read.ensures.rest
