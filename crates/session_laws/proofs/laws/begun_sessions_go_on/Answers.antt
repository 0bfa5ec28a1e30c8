use Rattle.session_laws.proofs.GoingOn.{begun_sessions_go_on, stopped_sessions_go_on}
use Rattle.session_laws.proofs.laws.begun_sessions_go_on.Goals as goal

pub returns-clause-begun : goal.returns-clause-begun
returns-clause-begun c = begun_sessions_go_on c.parts_have_few_threads.ensures

pub returns-clause-stopped : goal.returns-clause-stopped
returns-clause-stopped c = stopped_sessions_go_on c.parts_have_few_threads.ensures
