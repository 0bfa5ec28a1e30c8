use Rattle.mount_replies.proofs.PageLaws.{pages_take_all_that_fit, pages_take_some}
use Rattle.mount_replies.proofs.WaitingPages.{pages_take_what_waits}
use Rattle.mount_replies.proofs.laws.pages_take_all_that_fits.Goals as goal

pub returns-clause-longest : goal.returns-clause-longest
returns-clause-longest c = pages_take_all_that_fit

pub returns-clause-some : goal.returns-clause-some
returns-clause-some c = pages_take_some

pub returns-clause-waits : goal.returns-clause-waits
returns-clause-waits c = pages_take_what_waits
