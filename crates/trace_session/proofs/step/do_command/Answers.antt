use Rattle.std.proofs.Common.{rules, ◌≡◌, Some, Ok, refl}
use Rattle.ticket_lock.specs.Calls.{view_of}
use Rattle.trace_command.specs.declared.command.Config.{Config}
use Rattle.trace_command.specs.declared.command.Reply.TheVariants.{Done}
use Rattle.trace_script.specs.declared.outcome.Outcome.TheVariants.{Replied}
use Rattle.trace_session.specs.Passes.{IsSessionPass, progress_of}
use Rattle.trace_session.proofs.SingleLines.{line_silent}
use Rattle.trace_session.proofs.step.do_command.Goals as goal

pub returns-then-is_silent-clause-ran : goal.returns-then-is_silent-clause-ran
returns-then-is_silent-clause-ran g c =
    let done : c.ask_command-pass.result.1 ≡ Ok Done = search rules in (
      c.ask_command-pass.ensures.session,
      line_silent g.W.Sink.wants_first c.args.line.number c.args.line.text.now (λ (config : Config). IsSessionPass config (view_of c.args.pass))
          (progress_of (view_of c.args.pass)) (progress_of (view_of c.ask_command-pass.result.0)) _ (search rules)
          (λ config seat. c.ask_command-pass.ensures.turn (Some (Replied Done)) (rw done refl) config c.args.line.text.now seat c.requires.says),
    )

pub returns-clause-ran : goal.returns-clause-ran
returns-clause-ran g c = (
  c.ask_command-pass.ensures.session,
  c.give_answer-given.ensures.run (view_of c.args.pass) (progress_of (view_of c.ask_command-pass.result.0))
      (λ outcome told config seat. c.ask_command-pass.ensures.turn outcome told config c.args.line.text.now seat c.requires.says),
)
