use Rattle.std.proofs.Common.{rules, ◌≡◌, ◌≢◌, Ok}
use Rattle.ticket_lock.specs.Calls.{view_of}
use Rattle.trace_command.specs.Commands.{Command}
use Rattle.trace_command.specs.declared.command.Config.{Config}
use Rattle.trace_script.specs.declared.line.Line.TheVariants.{Ask}
use Rattle.trace_session.specs.Passes.{IsSessionPass, progress_of}
use Rattle.trace_session.specs.Sessions.{turn_of}
use Rattle.trace_session.proofs.SingleLines.{line_run}
use Rattle.trace_session.proofs.step.do_line.Goals as goal

pub returns-in_default-clause-ran : goal.returns-in_default-clause-ran
returns-in_default-clause-ran g c = (
  λ config seat. seat,
  line_run g.W.Sink.wants_first c.args.line.number c.args.line.text.now (λ (config : Config). IsSessionPass config (view_of c.args.pass)) (progress_of (view_of c.args.pass))
      (progress_of (view_of c.args.pass)) c.unasked-outcome.result
      (λ config seat. c.unasked-outcome.ensures config (progress_of (view_of c.args.pass)) c.args.line.text.now (λ command. search rules) (search rules))
      _ _ c.give.result c.give.ensures,
)
