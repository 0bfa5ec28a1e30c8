use Rattle.mount_replies.proofs.WaitLaws.{oldest_is_answered_first}
use Rattle.mount_replies.proofs.laws.oldest_is_answered_first.Goals as goal

pub returns : goal.returns
returns c = oldest_is_answered_first
