use Rattle.ticket_lock.specs.Calls.{view_of}
use Rattle.shared_book.proofs.Asking.{worn_goes_on, asked_worn, worn_legal}
use Rattle.shared_book.proofs.call.ask.Goals as goal

pub returns-in-Err-clause-goes_on : goal.returns-in-Err-clause-goes_on
returns-in-Err-clause-goes_on g c =
    worn_goes_on (view_of c.args.pass) (view_of c.in-Err.worn.pass) c.args.pass.bounded c.in-Err.ensures.worn

pub returns-in-Err-clause-refused : goal.returns-in-Err-clause-refused
returns-in-Err-clause-refused g c = asked_worn (view_of c.args.pass) (view_of c.in-Err.worn.pass) c.args.command.now c.in-Err.ensures.worn

pub returns-in-Err-clause-legal : goal.returns-in-Err-clause-legal
returns-in-Err-clause-legal g c config is legal = worn_legal (view_of c.args.pass) (view_of c.in-Err.worn.pass) c.in-Err.ensures.worn config legal
