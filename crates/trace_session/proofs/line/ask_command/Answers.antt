use Rattle.ticket_lock.specs.Calls.{view_of}
use Rattle.trace_session.proofs.EmissionTurns.{told_turn}
use Rattle.trace_session.proofs.line.ask_command.Goals as goal

pub returns-clause-turn : goal.returns-clause-turn
returns-clause-turn g c outcome told config text seat said =
    told_turn config (view_of c.args.pass) (view_of c.ask.result.0) c.args.command.now c.ask.result.1 text seat
    c.ask.ensures.done c.ask.ensures.refused said outcome told
