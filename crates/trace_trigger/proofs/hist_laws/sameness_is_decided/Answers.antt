use Rattle.trace_trigger.proofs.SameLaws.{same_is_decided}
use Rattle.trace_trigger.proofs.hist_laws.sameness_is_decided.Goals as goal

pub returns : goal.returns
returns c = same_is_decided
