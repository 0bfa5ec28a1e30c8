use Rattle.std.proofs.Common.{rules}
use Rattle.ticket_lock.specs.Calls.{view_of}
use Rattle.shared_book.proofs.Asking.{asked_worn}
use Rattle.shared_book.proofs.call.try_ask.Goals as goal

pub returns-in-Err-Worn-clause-refused : goal.returns-in-Err-Worn-clause-refused
returns-in-Err-Worn-clause-refused g c = asked_worn (view_of c.args.pass) (view_of c.in-Err-Worn.worn.pass) c.args.command.now (search rules)
