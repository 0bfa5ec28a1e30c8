use Rattle.history_laws.proofs.SmallPasts.{are-read, is-emptied}
use Rattle.history_laws.proofs.laws.small_pasts_come_to_this.Goals as goal

pub returns-clause-emptied : goal.returns-clause-emptied
returns-clause-emptied c = is-emptied

pub returns-clause-read : goal.returns-clause-read
returns-clause-read c = are-read
