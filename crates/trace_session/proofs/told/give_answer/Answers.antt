use Rattle.std.proofs.Common.{◌≡◌}
use Rattle.trace_command.specs.declared.command.Config.{Config}
use Rattle.trace_session.specs.Passes.{IsSessionPass, progress_of}
use Rattle.trace_session.proofs.SingleLines.{line_run, line_stops}
use Rattle.trace_session.proofs.told.give_answer.Goals as goal

pub returns-in-Ok-clause-run : goal.returns-in-Ok-clause-run
returns-in-Ok-clause-run g c = λ view after turn.
    line_run g.W.Sink.wants_first c.args.number c.args.line.now (λ (config : Config). IsSessionPass config view) (progress_of view) after c.in-Ok.outcome
    (turn c.in-Ok.outcome c.in-Ok.ensures.told) _ _ c.give.result c.give.ensures

pub returns-in-Err-clause-run : goal.returns-in-Err-clause-run
returns-in-Err-clause-run g c = λ view after turn.
    line_stops g.W.Sink.wants_first c.args.number c.args.line.now (λ (config : Config). IsSessionPass config view) (progress_of view) after _
    c.in-Err.stop c.in-Err.ensures.stop
