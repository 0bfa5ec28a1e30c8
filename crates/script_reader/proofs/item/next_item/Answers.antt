use Rattle.script_reader.proofs.ItemReading.{plain_first}
use Rattle.script_reader.proofs.item.next_item.Goals as goal

pub returns-in_default-first_read-clause-found : goal.returns-in_default-first_read-clause-found
returns-in_default-first_read-clause-found c = λ line lines is plain.
    let none = (rw c.in_default.is at c.in_ok-command.ensures.found) (plain_first c.args.text.now line lines is plain) in absurd (cc none)

pub returns-clause-found : goal.returns-clause-found
returns-clause-found c = λ line lines is plain.
    let none = (rw c.in_default.is at c.in_ok-command.ensures.found) (plain_first c.args.text.now line lines is plain) in absurd (cc none)
