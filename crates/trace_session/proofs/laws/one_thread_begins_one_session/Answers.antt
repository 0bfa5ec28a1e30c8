use Rattle.trace_session.proofs.PartSessions.{one_thread_begins_one_session}
use Rattle.trace_session.proofs.laws.one_thread_begins_one_session.Goals as goal

pub returns : goal.returns
returns c = one_thread_begins_one_session
