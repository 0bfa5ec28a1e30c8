use Rattle.history_laws.proofs.LegalPasts.{legal_pasts_were_done}
use Rattle.history_laws.proofs.laws.legal_histories_were_done.Goals as goal

pub returns : goal.returns
returns c = legal_pasts_were_done
