use Rattle.std.proofs.Common.{ap}
use Rattle.trace_command.specs.declared.command.Reply.TheVariants.{Text}
use Rattle.trace_instance.proofs.LateReads.{trace_read, trace_shown}
use Rattle.trace_instance.proofs.late_reply.copy_trace.Goals as goal

pub returns : goal.returns
returns c = λ g name past is.
    trace_read g name past c.args.cpu _
    (ap Text (trace_shown g name past c.args.source c.buffer.result.now c.in_ok-events.events c.args.cpu c.in_ok-copy.copy is c.buffer.ensures c.in_ok-events.ensures
    c.in_ok-copy.ensures))
