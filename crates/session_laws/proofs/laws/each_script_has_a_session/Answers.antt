use Rattle.session_laws.proofs.GoingOn.{each_script_has_a_session}
use Rattle.session_laws.proofs.laws.each_script_has_a_session.Goals as goal

pub returns : goal.returns
returns c = each_script_has_a_session c.parts_have_few_threads.ensures
