use Rattle.std.proofs.Common.{arith}
use Rattle.trace_book.proofs.one_caller.Tracer.ask.Goals as goal

pub returns-clause-worn : goal.returns-clause-worn
returns-clause-worn c = λ worn. absurd (omega (arith, worn, c.in_ok-ticket.ensures.drawn.2))
