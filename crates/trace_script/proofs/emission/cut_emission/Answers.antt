use Rattle.trace_script.proofs.BareEmissions.{said_read, all_found}
use Rattle.trace_script.proofs.emission.cut_emission.Goals as goal

pub returns-clause-read : goal.returns-clause-read
returns-clause-read c = said_read _ _ _ _ _ c.in-Some.ensures.said c.cut_bare.ensures.read

pub returns-clause-found : goal.returns-clause-found
returns-clause-found c = all_found _ _ _ _ c.in-Some.ensures.said c.in-Some.ensures.spaced c.cut_bare.ensures.none
