use Rattle.error_log.proofs.LineLemmas.{caret_stands_under}
use Rattle.error_log.proofs.laws.caret_stands_under.Goals as goal

pub returns : goal.returns
returns c = caret_stands_under
