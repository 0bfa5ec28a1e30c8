use Rattle.page_ring.proofs.Losses.{least_is_read, lost_is_between, readings_are_ahead, takes_leave_the_rest, nothing_to_read}
use Rattle.page_ring.proofs.laws.least_is_read.Goals as goal

pub returns-clause-least : goal.returns-clause-least
returns-clause-least c = least_is_read

pub returns-clause-lost : goal.returns-clause-lost
returns-clause-lost c = lost_is_between

pub returns-clause-ahead : goal.returns-clause-ahead
returns-clause-ahead c = readings_are_ahead

pub returns-clause-rest : goal.returns-clause-rest
returns-clause-rest c = takes_leave_the_rest

pub returns-clause-nothing : goal.returns-clause-nothing
returns-clause-nothing c = nothing_to_read
