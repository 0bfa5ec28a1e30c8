use Rattle.tracer_specification.specs.History.{past_of}
use Rattle.trace_book.proofs.book.Book.instance.Goals as goal

pub returns-clause-there : goal.returns-clause-there
returns-clause-there c = rw (← c.self.view_is) (c.instance.ensures.there (past_of c.self.inside.history.entries) c.self.invariant.lives)

pub returns-clause-stands : goal.returns-clause-stands
returns-clause-stands c = rw (← c.self.view_is) (c.instance.ensures.stands (past_of c.self.inside.history.entries) c.self.invariant.lives)
