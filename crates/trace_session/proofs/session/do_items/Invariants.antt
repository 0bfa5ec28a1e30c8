use Rattle.std.proofs.Common.{◌≡◌, ◌+◌, ◌≤◌, length}
use Rattle.std.specs.Option.{option_copied}
use Rattle.ticket_lock.specs.Calls.{view_of, IsOf}
use Rattle.trace_command.specs.declared.command.Config.{Config}
use Rattle.script_reader.specs.ScriptLines.{bytes_left}
use Rattle.trace_session.specs.Passes.{IsSessionPass, progress_of}
use Rattle.trace_session.proofs.Standing.{Stands}
use Rattle.trace_session.proofs.session.do_items.Given as goal

abbrev pub invariant-loop-rest : goal.invariant-loop-rest
invariant-loop-rest g l =
    let contents = g.W.Sink.contents in
    let failures = g.W.Sink.failures in
    record {
      of : IsOf l.env.lock.now l.pass;
      seated : (config : Config) → IsSessionPass config (view_of l.fn.pass) → IsSessionPass config (view_of l.pass);
      stands : (config : Config) → IsSessionPass config (view_of l.fn.pass)
          → Stands config (g.G.Gate.may_answer l.env.gate.now) g.W.Sink.wants_first l.script (contents l.fn.writer) (contents l.writer) l.replies
          (g.W.Sink.heard l.fn.writer) (g.W.Sink.heard l.writer) (progress_of (view_of l.pass)) (option_copied l.rest) l.number l.status;
      room : l.number + bytes_left (option_copied l.rest) ≤ length l.script + 2;
      unfailed : failures l.writer ≡ failures l.fn.writer;
    }

abbrev pub decreases-loop-rest : goal.decreases-loop-rest
decreases-loop-rest g l = bytes_left (option_copied l.rest)
