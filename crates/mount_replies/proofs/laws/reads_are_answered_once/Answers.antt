use Rattle.mount_replies.proofs.AnsweredOnce.{reads_are_answered_once}
use Rattle.mount_replies.proofs.laws.reads_are_answered_once.Goals as goal

pub returns : goal.returns
returns c = reads_are_answered_once
