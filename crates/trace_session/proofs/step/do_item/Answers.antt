use Rattle.std.proofs.Common.{ap}
use Rattle.ticket_lock.specs.Calls.{view_of}
use Rattle.trace_command.specs.declared.command.Config.{Config}
use Rattle.script_reader.specs.NextItems.{item_read}
use Rattle.trace_session.specs.Passes.{IsSessionPass, progress_of}
use Rattle.trace_session.proofs.ItemRunning.{line_item, fault_item}
use Rattle.trace_session.proofs.step.do_item.Goals as goal

pub returns-in-Line-clause-ran : goal.returns-in-Line-clause-ran
returns-in-Line-clause-ran g c = (
  c.do_line.ensures.ran.0,
  line_item g.W.Sink.wants_first (g.G.Gate.may_answer c.args.env.now.gate.now) (g.G.Gate.is_open c.args.env.now.gate.now) c.args.number c.args.item
      (λ (config : Config). IsSessionPass config (view_of c.args.pass)) (progress_of (view_of c.args.pass)) _ _ c.do_line.result.1
      c.in-Line.line.now (progress_of (view_of c.do_line.result.0)) (ap (item_read c.args.number) c.in-Line.is)
      (λ config given heard. rw c.in-Line.is heard) c.do_line.ensures.ran.1,
)

pub returns-in-Threads-clause-ran : goal.returns-in-Threads-clause-ran
returns-in-Threads-clause-ran g c = rw c.in-Threads.is c.do_part.ensures.ran

pub returns-in-Fault-clause-ran : goal.returns-in-Fault-clause-ran
returns-in-Fault-clause-ran g c = (
  λ config seat. seat,
  fault_item g.W.Sink.wants_first (g.G.Gate.may_answer c.args.env.now.gate.now) (g.G.Gate.is_open c.args.env.now.gate.now) c.args.number c.args.item
      (λ (config : Config). IsSessionPass config (view_of c.args.pass)) (progress_of (view_of c.args.pass)) _ _ c.give-given.result
      c.in-Fault.at c.in-Fault.line.now (ap (item_read c.args.number) c.in-Fault.is) (λ config given heard. rw c.in-Fault.is heard) c.give-given.ensures,
)
