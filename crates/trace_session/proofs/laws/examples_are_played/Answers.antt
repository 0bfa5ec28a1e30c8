use Rattle.trace_session.proofs.PartExamples.{examples_are_played}
use Rattle.trace_session.proofs.laws.examples_are_played.Goals as goal

pub returns-clause-end : goal.returns-clause-end
returns-clause-end c = examples_are_played.end

pub returns-clause-endless : goal.returns-clause-endless
returns-clause-endless c = examples_are_played.endless

pub returns-clause-inner : goal.returns-clause-inner
returns-clause-inner c = examples_are_played.inner

pub returns-clause-command : goal.returns-clause-command
returns-clause-command c = examples_are_played.command

pub returns-clause-fault : goal.returns-clause-fault
returns-clause-fault c = examples_are_played.fault

pub returns-clause-nine : goal.returns-clause-nine
returns-clause-nine c = examples_are_played.nine
