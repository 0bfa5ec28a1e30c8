use Rattle.page_ring.proofs.Losses.{accepted_always, accepted_without_loss, dropped_only}
use Rattle.page_ring.proofs.laws.accepted_without_loss.Goals as goal

pub returns-clause-always : goal.returns-clause-always
returns-clause-always c = accepted_always

pub returns-clause-without_loss : goal.returns-clause-without_loss
returns-clause-without_loss c = accepted_without_loss

pub returns-clause-dropped : goal.returns-clause-dropped
returns-clause-dropped c = dropped_only
