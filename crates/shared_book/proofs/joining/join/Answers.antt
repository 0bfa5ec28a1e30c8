use Rattle.ticket_lock.specs.Calls.{view_of}
use Rattle.shared_book.proofs.Asking.{met_of}
use Rattle.shared_book.proofs.joining.join.Goals as goal

pub returns-clause-met : goal.returns-clause-met
returns-clause-met g c =
    met_of g.met.B.SharedBook.tickets g.met.B.SharedBook.callers (view_of c.args.first) (view_of c.args.second) (view_of c.join.result) c.join.ensures.met
