use Rattle.shared_mount.proofs.HistoryLemmas.{histories_are_turns}
use Rattle.shared_mount.proofs.laws.histories_are_turns.Goals as goal

pub returns : goal.returns
returns c = histories_are_turns
