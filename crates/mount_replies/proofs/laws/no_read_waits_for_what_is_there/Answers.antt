use Rattle.mount_replies.proofs.WaitLaws.{no_poll_waits_for_what_is_there, no_read_waits_for_what_is_there}
use Rattle.mount_replies.proofs.laws.no_read_waits_for_what_is_there.Goals as goal

pub returns-clause-waits : goal.returns-clause-waits
returns-clause-waits c = no_read_waits_for_what_is_there

pub returns-clause-polls : goal.returns-clause-polls
returns-clause-polls c = no_poll_waits_for_what_is_there
