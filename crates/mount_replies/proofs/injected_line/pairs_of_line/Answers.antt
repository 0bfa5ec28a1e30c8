use Rattle.mount_replies.proofs.LineLemmas.{asked, faulty}
use Rattle.mount_replies.proofs.injected_line.pairs_of_line.Goals as goal

pub returns-in-Ok : goal.returns-in-Ok
returns-in-Ok c = λ line is. rw c.pairs_asked.ensures (asked line c.args.text.now c.in-Ok.line is c.in-Ok.ensures)

pub returns-in-Err-Fault : goal.returns-in-Err-Fault
returns-in-Err-Fault c = λ line is. faulty line c.args.text.now _ is (rw c.in-Err-Fault.field-0-is at c.in-Err-Fault.ensures)
