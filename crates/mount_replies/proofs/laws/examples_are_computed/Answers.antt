use Rattle.mount_replies.proofs.ComputedSteps.{steps_are_computed}
use Rattle.mount_replies.proofs.WorkedSession.{are_computed, session_is_served}
use Rattle.mount_replies.proofs.laws.examples_are_computed.Goals as goal

pub returns-clause-steps : goal.returns-clause-steps
returns-clause-steps c = steps_are_computed

pub returns-clause-sessions : goal.returns-clause-sessions
returns-clause-sessions c = are_computed.sessions

pub returns-clause-calls : goal.returns-clause-calls
returns-clause-calls c = are_computed.calls

pub returns-clause-bytes : goal.returns-clause-bytes
returns-clause-bytes c = session_is_served
