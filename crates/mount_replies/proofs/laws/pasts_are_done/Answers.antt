use Rattle.mount_replies.proofs.DoneLemmas.{pasts_are_done}
use Rattle.mount_replies.proofs.laws.pasts_are_done.Goals as goal

pub returns : goal.returns
returns c = pasts_are_done
