use Rattle.error_log.proofs.LogLemmas.{keeps_last_eight}
use Rattle.error_log.proofs.laws.keeps_last_eight.Goals as goal

pub returns : goal.returns
returns c = keeps_last_eight
