use Rattle.std.proofs.Common.{◌≡◌, ◌+◌, ◌∷◌, ◌∙◌, refl, arith}
use Rattle.std.proofs.lemmas.Result.{err_from_is_err_and}
use Rattle.std.specs.Option.{option_copied}
use Rattle.ticket_lock.specs.Calls.{view_of}
use Rattle.script_reader.specs.Items.{Single}
use Rattle.script_reader.specs.NextItems.{item_read}
use Rattle.script_reader.specs.ScriptLines.{lines_of, lines_left}
use Rattle.trace_session.specs.Passes.{progress_of}
use Rattle.trace_session.proofs.Standing.{begins, few, keeps, at_fault, at_device, at_part, at_stop, at_stop_here, at_end}
use Rattle.trace_session.proofs.HearingAll.{emission_heard, item_heard, left_next, left_later}
use Rattle.trace_session.proofs.PartLines.{has_its_lines}
use Rattle.trace_session.proofs.session.do_items.Goals as goal

pub loop-rest-init : goal.loop-rest-init
loop-rest-init g c = record {
  of = c.requires.of;
  seated = λ config seat. seat;
  stands = λ config seat.
      rw c.requires.none
      (begins config (g.G.Gate.may_answer c.args.env.now.gate.now) g.W.Sink.wants_first c.args.script.now (g.W.Sink.contents c.args.writer.now) (g.W.Sink.heard c.args.writer.now) (progress_of (view_of c.args.pass)) c.requires.begins);
  room = omega arith;
  unfailed = refl;
}

-- ---- an emission

pub returns-in_default-next_item-clause-memory : goal.returns-in_default-next_item-clause-memory
returns-in_default-next_item-clause-memory g c h config seat =
    let contents = g.W.Sink.contents in
    let heard = g.W.Sink.heard in
    at_stop_here config (g.G.Gate.may_answer c.args.env.now.gate.now) g.W.Sink.wants_first c.args.script.now (contents c.args.writer.now) (contents c.loop-rest.writer) c.loop-rest.replies
    (heard c.args.writer.now) (heard c.loop-rest.writer) (progress_of (view_of c.loop-rest.pass)) c.in-Some.text.now
    c.loop-rest.number c.loop-rest.status (rw c.in-Some.is at c.loop-rest.invariant.stands config seat)

pub returns-in_err-done-in-Emission-clause-memory : goal.returns-in_err-done-in-Emission-clause-memory
returns-in_err-done-in-Emission-clause-memory g c h config seat =
    let contents = g.W.Sink.contents in
    let heard = g.W.Sink.heard in
    let p = err_from_is_err_and c.from_residual.result c.from_residual.ensures.1 in
    at_stop config (g.G.Gate.may_answer c.args.env.now.gate.now) g.W.Sink.wants_first c.args.script.now (contents c.args.writer.now) (contents c.loop-rest.writer) c.loop-rest.replies
    (heard c.args.writer.now) (heard c.loop-rest.writer) (progress_of (view_of c.loop-rest.pass)) c.in-Some.text.now
    c.loop-rest.number c.loop-rest.status (rw c.in-Some.is at c.loop-rest.invariant.stands config seat)
    (contents c.do_command-back.new.writer) c.do_command-back.new.replies (heard c.do_command-back.new.writer)
    (rw c.in_err-done-in-Emission.was at c.do_command-back.ensures.ran.1.unheard) (c.do_command-back.ensures.ran.1.memory (cc (h, p.1, p.2, c.in_err-done-in-Emission.was)))

pub returns-in_err-done-in-Emission-clause-stopped : goal.returns-in_err-done-in-Emission-clause-stopped
returns-in_err-done-in-Emission-clause-stopped g c h config seat =
    let p = err_from_is_err_and c.from_residual.result c.from_residual.ensures.1 in
    absurd (c.do_command-back.ensures.ran.1.stopped (cc (h, p.1, p.2, c.in_err-done-in-Emission.was)))

pub returns-in_err-done-in-Emission-clause-device : goal.returns-in_err-done-in-Emission-clause-device
returns-in_err-done-in-Emission-clause-device g c h config seat =
    let contents = g.W.Sink.contents in
    let heard = g.W.Sink.heard in
    let p = err_from_is_err_and c.from_residual.result c.from_residual.ensures.1 in
    at_device config (g.G.Gate.may_answer c.args.env.now.gate.now) g.W.Sink.wants_first c.args.script.now (contents c.args.writer.now) (contents c.loop-rest.writer) c.loop-rest.replies
    (heard c.args.writer.now) (heard c.loop-rest.writer) (progress_of (view_of c.loop-rest.pass)) c.in-Some.text.now
    c.loop-rest.number c.loop-rest.status (rw c.in-Some.is at c.loop-rest.invariant.stands config seat)
    (Single c.loop-rest.number c.in-Emission.plain.line.now) (option_copied c.in-Emission.plain.rest) (c.loop-rest.number + 1)
    ((rw c.in-Emission.is at c.in-Ok.ensures.read) c.loop-rest.number)
    (contents c.do_command-back.new.writer) (progress_of (view_of c.do_command-back.result.0)) (heard c.do_command-back.new.writer)
    (rw c.in_err-done-in-Emission.was at c.do_command-back.ensures.ran.1.unheard) tt
    (c.do_command-back.ensures.ran.1.device (cc (h, p.1, p.2, c.in_err-done-in-Emission.was)) config (c.loop-rest.invariant.seated config seat))

pub loop-rest-preserved-in-Emission : goal.loop-rest-preserved-in-Emission
loop-rest-preserved-in-Emission g c =
    let contents = g.W.Sink.contents in
    let heard = g.W.Sink.heard in
    let done = c.do_command-back.ensures in
    let lines : lines_of c.in-Some.text.now ≡ c.in-Emission.plain.line.now ∷ lines_left (option_copied c.in-Emission.plain.rest) = rw c.in-Emission.is at c.in-Ok.ensures.lines in
    record {
      of = done.of;
      seated = λ config seat. done.ran.0 config (c.loop-rest.invariant.seated config seat);
      stands = λ config seat.
          let stands = rw c.in-Some.is at c.loop-rest.invariant.stands config seat in
          let gave = (rw c.in_ok-done-in-Emission.was at done.ran.1.done) config (c.loop-rest.invariant.seated config seat) in
          keeps config (g.G.Gate.may_answer c.args.env.now.gate.now) g.W.Sink.wants_first c.args.script.now (contents c.args.writer.now) (contents c.loop-rest.writer) c.loop-rest.replies
          (heard c.args.writer.now) (heard c.loop-rest.writer) (progress_of (view_of c.loop-rest.pass)) c.in-Some.text.now
          c.loop-rest.number c.loop-rest.status stands
          (Single c.loop-rest.number c.in-Emission.plain.line.now) (option_copied c.in-Emission.plain.rest) (c.loop-rest.number + 1)
          ((rw c.in-Emission.is at c.in-Ok.ensures.read) c.loop-rest.number)
          (contents c.do_command-back.new.writer) c.do_command-back.new.replies (progress_of (view_of c.do_command-back.result.0)) c.in_ok-done-in-Emission.field-0
          gave
          c.with_item-status.result (heard c.do_command-back.new.writer) tt
          (emission_heard config c.loop-rest.number (lines_of c.args.script.now) (lines_of c.in-Some.text.now) stands.some stands.is_left
          (progress_of (view_of c.loop-rest.pass)) (progress_of (view_of c.do_command-back.result.0)) gave.0 (contents c.do_command-back.new.writer)
          (heard c.loop-rest.writer) (heard c.do_command-back.new.writer) c.in-Emission.plain.line.now (lines_left (option_copied c.in-Emission.plain.rest)) lines gave.1
          (rw c.in_ok-done-in-Emission.was at (done.ran.1.heard config (c.loop-rest.invariant.seated config seat))))
          (rw c.in_ok-done-in-Emission.was at done.ran.1.flushed)
          (omega (arith, stands.some))
          (left_next c.loop-rest.number (lines_of c.args.script.now) (lines_of c.in-Some.text.now) _ _ stands.some stands.is_left lines)
          (rw c.in_ok-done-in-Emission.was at done.faultless) c.with_item-status.ensures.refused c.with_item-status.ensures.other;
      room = omega (arith, rw c.in-Some.is at c.loop-rest.invariant.room, rw c.in-Emission.is at c.in-Ok.ensures.shorter);
      unfailed = (rw c.in_ok-done-in-Emission.was at done.ran.1.failures) ∙ c.loop-rest.invariant.unfailed;
    }

-- ---- a read

pub returns-in_err-ran-in-Read-clause-memory : goal.returns-in_err-ran-in-Read-clause-memory
returns-in_err-ran-in-Read-clause-memory g c h config seat =
    let contents = g.W.Sink.contents in
    let heard = g.W.Sink.heard in
    let p = err_from_is_err_and c.from_residual-in_err-ran-in-Read.result c.from_residual-in_err-ran-in-Read.ensures.1 in
    at_stop config (g.G.Gate.may_answer c.args.env.now.gate.now) g.W.Sink.wants_first c.args.script.now (contents c.args.writer.now) (contents c.loop-rest.writer) c.loop-rest.replies
    (heard c.args.writer.now) (heard c.loop-rest.writer) (progress_of (view_of c.loop-rest.pass)) c.in-Some.text.now
    c.loop-rest.number c.loop-rest.status (rw c.in-Some.is at c.loop-rest.invariant.stands config seat)
    (contents c.do_other_command-back.new.writer) c.do_other_command-back.new.replies (heard c.do_other_command-back.new.writer)
    (rw c.in_err-ran-in-Read.was at c.do_other_command-back.ensures.ran.1.unheard) (c.do_other_command-back.ensures.ran.1.memory (cc (h, p.1, p.2, c.in_err-ran-in-Read.was)))

pub returns-in_err-ran-in-Read-clause-stopped : goal.returns-in_err-ran-in-Read-clause-stopped
returns-in_err-ran-in-Read-clause-stopped g c h config seat =
    let p = err_from_is_err_and c.from_residual-in_err-ran-in-Read.result c.from_residual-in_err-ran-in-Read.ensures.1 in
    absurd (c.do_other_command-back.ensures.ran.1.stopped (cc (h, p.1, p.2, c.in_err-ran-in-Read.was)))

pub returns-in_err-ran-in-Read-clause-device : goal.returns-in_err-ran-in-Read-clause-device
returns-in_err-ran-in-Read-clause-device g c h config seat =
    let contents = g.W.Sink.contents in
    let heard = g.W.Sink.heard in
    let p = err_from_is_err_and c.from_residual-in_err-ran-in-Read.result c.from_residual-in_err-ran-in-Read.ensures.1 in
    at_device config (g.G.Gate.may_answer c.args.env.now.gate.now) g.W.Sink.wants_first c.args.script.now (contents c.args.writer.now) (contents c.loop-rest.writer) c.loop-rest.replies
    (heard c.args.writer.now) (heard c.loop-rest.writer) (progress_of (view_of c.loop-rest.pass)) c.in-Some.text.now
    c.loop-rest.number c.loop-rest.status (rw c.in-Some.is at c.loop-rest.invariant.stands config seat)
    (Single c.loop-rest.number c.in-Read.plain.line.now) (option_copied c.in-Read.plain.rest) (c.loop-rest.number + 1)
    ((rw c.in-Read.is at c.in-Ok.ensures.read) c.loop-rest.number)
    (contents c.do_other_command-back.new.writer) (progress_of (view_of c.do_other_command-back.result.0)) (heard c.do_other_command-back.new.writer)
    (rw c.in_err-ran-in-Read.was at c.do_other_command-back.ensures.ran.1.unheard) tt
    (c.do_other_command-back.ensures.ran.1.device (cc (h, p.1, p.2, c.in_err-ran-in-Read.was)) config (c.loop-rest.invariant.seated config seat))

pub loop-rest-preserved-in-Read : goal.loop-rest-preserved-in-Read
loop-rest-preserved-in-Read g c =
    let contents = g.W.Sink.contents in
    let heard = g.W.Sink.heard in
    let done = c.do_other_command-back.ensures in
    let lines : lines_of c.in-Some.text.now ≡ c.in-Read.plain.line.now ∷ lines_left (option_copied c.in-Read.plain.rest) = rw c.in-Read.is at c.in-Ok.ensures.lines in
    record {
      of = done.of;
      seated = λ config seat. done.ran.0 config (c.loop-rest.invariant.seated config seat);
      stands = λ config seat.
          let stands = rw c.in-Some.is at c.loop-rest.invariant.stands config seat in
          let gave = (rw c.in_ok-ran-in-Read.was at done.ran.1.done) config (c.loop-rest.invariant.seated config seat) in
          keeps config (g.G.Gate.may_answer c.args.env.now.gate.now) g.W.Sink.wants_first c.args.script.now (contents c.args.writer.now) (contents c.loop-rest.writer) c.loop-rest.replies
          (heard c.args.writer.now) (heard c.loop-rest.writer) (progress_of (view_of c.loop-rest.pass)) c.in-Some.text.now
          c.loop-rest.number c.loop-rest.status stands
          (Single c.loop-rest.number c.in-Read.plain.line.now) (option_copied c.in-Read.plain.rest) (c.loop-rest.number + 1)
          ((rw c.in-Read.is at c.in-Ok.ensures.read) c.loop-rest.number)
          (contents c.do_other_command-back.new.writer) c.do_other_command-back.new.replies (progress_of (view_of c.do_other_command-back.result.0)) c.in_ok-ran-in-Read.field-0
          gave
          c.with_item-status-in-Read.result (heard c.do_other_command-back.new.writer) tt
          (emission_heard config c.loop-rest.number (lines_of c.args.script.now) (lines_of c.in-Some.text.now) stands.some stands.is_left
          (progress_of (view_of c.loop-rest.pass)) (progress_of (view_of c.do_other_command-back.result.0)) gave.0 (contents c.do_other_command-back.new.writer)
          (heard c.loop-rest.writer) (heard c.do_other_command-back.new.writer) c.in-Read.plain.line.now (lines_left (option_copied c.in-Read.plain.rest)) lines gave.1
          (rw c.in_ok-ran-in-Read.was at (done.ran.1.heard config (c.loop-rest.invariant.seated config seat))))
          (rw c.in_ok-ran-in-Read.was at done.ran.1.flushed)
          (omega (arith, stands.some))
          (left_next c.loop-rest.number (lines_of c.args.script.now) (lines_of c.in-Some.text.now) _ _ stands.some stands.is_left lines)
          (rw c.in_ok-ran-in-Read.was at done.faultless) c.with_item-status-in-Read.ensures.refused c.with_item-status-in-Read.ensures.other;
      room = omega (arith, rw c.in-Some.is at c.loop-rest.invariant.room, rw c.in-Read.is at c.in-Ok.ensures.shorter);
      unfailed = (rw c.in_ok-ran-in-Read.was at done.ran.1.failures) ∙ c.loop-rest.invariant.unfailed;
    }

-- ---- any other item

pub returns-in_default-other_item-clause-memory : goal.returns-in_default-other_item-clause-memory
returns-in_default-other_item-clause-memory g c h config seat =
    let contents = g.W.Sink.contents in
    let heard = g.W.Sink.heard in
    at_stop_here config (g.G.Gate.may_answer c.args.env.now.gate.now) g.W.Sink.wants_first c.args.script.now (contents c.args.writer.now) (contents c.loop-rest.writer) c.loop-rest.replies
    (heard c.args.writer.now) (heard c.loop-rest.writer) (progress_of (view_of c.loop-rest.pass)) c.in-Some.text.now
    c.loop-rest.number c.loop-rest.status (rw c.in-Some.is at c.loop-rest.invariant.stands config seat)

pub do_item-back-requires-clause-few : goal.do_item-back-requires-clause-few
do_item-back-requires-clause-few g c κs within =
    let contents = g.W.Sink.contents in
    let heard = g.W.Sink.heard in
    let config = c.requires.session.0 in
    few config (g.G.Gate.may_answer c.args.env.now.gate.now) g.W.Sink.wants_first c.args.script.now (contents c.args.writer.now) (contents c.loop-rest.writer) c.loop-rest.replies
    (heard c.args.writer.now) (heard c.loop-rest.writer) (progress_of (view_of c.loop-rest.pass)) c.in-Some.text.now
    c.loop-rest.number c.loop-rest.status (rw c.in-Some.is at c.loop-rest.invariant.stands config c.requires.session.1)
    (item_read c.loop-rest.number c.in-Ok-other_item.other.item) (option_copied c.in-Ok-other_item.other.rest) c.in-Ok-other_item.other.number c.in-Ok-other_item.ensures.read

pub do_item-back-requires-clause-lines : goal.do_item-back-requires-clause-lines
do_item-back-requires-clause-lines g c κs within =
    has_its_lines c.loop-rest.number c.in-Some.text.now c.in-Ok-other_item.other.item _ c.in-Ok-other_item.ensures.read c.in-Ok-other_item.ensures.text

pub returns-in_err-item_status-clause-memory : goal.returns-in_err-item_status-clause-memory
returns-in_err-item_status-clause-memory g c h config seat =
    let contents = g.W.Sink.contents in
    let heard = g.W.Sink.heard in
    let p = err_from_is_err_and c.from_residual-in_err-item_status.result c.from_residual-in_err-item_status.ensures.1 in
    at_stop config (g.G.Gate.may_answer c.args.env.now.gate.now) g.W.Sink.wants_first c.args.script.now (contents c.args.writer.now) (contents c.loop-rest.writer) c.loop-rest.replies
    (heard c.args.writer.now) (heard c.loop-rest.writer) (progress_of (view_of c.loop-rest.pass)) c.in-Some.text.now
    c.loop-rest.number c.loop-rest.status (rw c.in-Some.is at c.loop-rest.invariant.stands config seat)
    (contents c.do_item-back.new.writer) c.do_item-back.new.replies (heard c.do_item-back.new.writer)
    (rw c.in_err-item_status.was at c.do_item-back.ensures.ran.1.unheard) (c.do_item-back.ensures.ran.1.memory (cc (h, p.1, p.2, c.in_err-item_status.was)))

pub returns-in_err-item_status-clause-stopped : goal.returns-in_err-item_status-clause-stopped
returns-in_err-item_status-clause-stopped g c h config seat =
    let contents = g.W.Sink.contents in
    let heard = g.W.Sink.heard in
    let p = err_from_is_err_and c.from_residual-in_err-item_status.result c.from_residual-in_err-item_status.ensures.1 in
    at_part config (g.G.Gate.may_answer c.args.env.now.gate.now) g.W.Sink.wants_first c.args.script.now (contents c.args.writer.now) (contents c.loop-rest.writer) c.loop-rest.replies
    (heard c.args.writer.now) (heard c.loop-rest.writer) (progress_of (view_of c.loop-rest.pass)) c.in-Some.text.now
    c.loop-rest.number c.loop-rest.status (rw c.in-Some.is at c.loop-rest.invariant.stands config seat)
    (item_read c.loop-rest.number c.in-Ok-other_item.other.item) (option_copied c.in-Ok-other_item.other.rest) c.in-Ok-other_item.other.number c.in-Ok-other_item.ensures.read
    (contents c.do_item-back.new.writer) c.do_item-back.new.replies (heard c.do_item-back.new.writer)
    (rw c.in_err-item_status.was at c.do_item-back.ensures.ran.1.unheard) (c.do_item-back.ensures.ran.1.part (cc (h, p.1, p.2, c.in_err-item_status.was)))
    (c.do_item-back.ensures.ran.1.stopped (cc (h, p.1, p.2, c.in_err-item_status.was)))

pub returns-in_err-item_status-clause-device : goal.returns-in_err-item_status-clause-device
returns-in_err-item_status-clause-device g c h config seat =
    let contents = g.W.Sink.contents in
    let heard = g.W.Sink.heard in
    let p = err_from_is_err_and c.from_residual-in_err-item_status.result c.from_residual-in_err-item_status.ensures.1 in
    at_device config (g.G.Gate.may_answer c.args.env.now.gate.now) g.W.Sink.wants_first c.args.script.now (contents c.args.writer.now) (contents c.loop-rest.writer) c.loop-rest.replies
    (heard c.args.writer.now) (heard c.loop-rest.writer) (progress_of (view_of c.loop-rest.pass)) c.in-Some.text.now
    c.loop-rest.number c.loop-rest.status (rw c.in-Some.is at c.loop-rest.invariant.stands config seat)
    (item_read c.loop-rest.number c.in-Ok-other_item.other.item) (option_copied c.in-Ok-other_item.other.rest) c.in-Ok-other_item.other.number c.in-Ok-other_item.ensures.read
    (contents c.do_item-back.new.writer) (progress_of (view_of c.do_item-back.result.0)) (heard c.do_item-back.new.writer)
    (rw c.in_err-item_status.was at c.do_item-back.ensures.ran.1.unheard)
    (c.do_item-back.ensures.ran.1.passed_device (cc (h, p.1, p.2, c.in_err-item_status.was)))
    (c.do_item-back.ensures.ran.1.device (cc (h, p.1, p.2, c.in_err-item_status.was)) config (c.loop-rest.invariant.seated config seat))

pub returns-in-Fault-clause-ok : goal.returns-in-Fault-clause-ok
returns-in-Fault-clause-ok g c config seat =
    let contents = g.W.Sink.contents in
    let heard = g.W.Sink.heard in
    let read = c.in-Ok-other_item.ensures in
    let item = c.in-Ok-other_item.other.item in
    let stands = rw c.in-Some.is at c.loop-rest.invariant.stands config seat in
    let gave = (rw c.in_ok-item_status.was at c.do_item-back.ensures.ran.1.done) config (c.loop-rest.invariant.seated config seat) in
    at_fault config (g.G.Gate.may_answer c.args.env.now.gate.now) g.W.Sink.wants_first c.args.script.now (contents c.args.writer.now) (contents c.loop-rest.writer) c.loop-rest.replies
    (heard c.args.writer.now) (heard c.loop-rest.writer) (progress_of (view_of c.loop-rest.pass)) c.in-Some.text.now
    c.loop-rest.number c.loop-rest.status stands
    (item_read c.loop-rest.number item) (option_copied c.in-Ok-other_item.other.rest) c.in-Ok-other_item.other.number read.read
    (contents c.do_item-back.new.writer) c.do_item-back.new.replies (progress_of (view_of c.do_item-back.result.0)) c.in_ok-item_status.item_status
    (gave.0, gave.1, gave.2, gave.3) (heard c.do_item-back.new.writer)
    (rw c.in_ok-item_status.was at c.do_item-back.ensures.ran.1.passed)
    (item_heard config c.loop-rest.number (lines_of c.args.script.now) c.in-Some.text.now item _ (progress_of (view_of c.loop-rest.pass))
    (progress_of (view_of c.do_item-back.result.0)) gave.0 (contents c.do_item-back.new.writer) (heard c.loop-rest.writer) (heard c.do_item-back.new.writer)
    stands.some stands.is_left read.read read.text read.line gave.1 gave.4)
    gave.5 c.in-Fault.is

pub loop-rest-preserved : goal.loop-rest-preserved
loop-rest-preserved g c =
    let contents = g.W.Sink.contents in
    let heard = g.W.Sink.heard in
    let done = c.do_item-back.ensures in
    let read = c.in-Ok-other_item.ensures in
    let item = c.in-Ok-other_item.other.item in
    record {
      of = done.of;
      seated = λ config seat. done.ran.0 config (c.loop-rest.invariant.seated config seat);
      stands = λ config seat.
          let stands = rw c.in-Some.is at c.loop-rest.invariant.stands config seat in
          let gave = (rw c.in_ok-item_status.was at done.ran.1.done) config (c.loop-rest.invariant.seated config seat) in
          keeps config (g.G.Gate.may_answer c.args.env.now.gate.now) g.W.Sink.wants_first c.args.script.now (contents c.args.writer.now) (contents c.loop-rest.writer) c.loop-rest.replies
          (heard c.args.writer.now) (heard c.loop-rest.writer) (progress_of (view_of c.loop-rest.pass)) c.in-Some.text.now
          c.loop-rest.number c.loop-rest.status stands
          (item_read c.loop-rest.number item) (option_copied c.in-Ok-other_item.other.rest) c.in-Ok-other_item.other.number read.read
          (contents c.do_item-back.new.writer) c.do_item-back.new.replies (progress_of (view_of c.do_item-back.result.0)) c.in_ok-item_status.item_status
          (gave.0, gave.1, gave.2, gave.3)
          c.with_item-status-in_default-2.result (heard c.do_item-back.new.writer) (rw c.in_ok-item_status.was at done.ran.1.passed)
          (item_heard config c.loop-rest.number (lines_of c.args.script.now) c.in-Some.text.now item _ (progress_of (view_of c.loop-rest.pass))
          (progress_of (view_of c.do_item-back.result.0)) gave.0 (contents c.do_item-back.new.writer) (heard c.loop-rest.writer) (heard c.do_item-back.new.writer)
          stands.some stands.is_left read.read read.text read.line gave.1 gave.4)
          gave.5
          (omega (arith, stands.some, read.number))
          (left_later c.loop-rest.number c.in-Ok-other_item.other.number (lines_of c.args.script.now) (lines_of c.in-Some.text.now) _ stands.some stands.is_left read.number read.lines)
          c.in_default-2.not-Fault c.with_item-status-in_default-2.ensures.refused c.with_item-status-in_default-2.ensures.other;
      room = omega (arith, rw c.in-Some.is at c.loop-rest.invariant.room, c.in-Ok-other_item.ensures.room);
      unfailed = (rw c.in_ok-item_status.was at done.ran.1.failures) ∙ c.loop-rest.invariant.unfailed;
    }

pub returns-clause-ok : goal.returns-clause-ok
returns-clause-ok g c config seat =
    let contents = g.W.Sink.contents in
    let heard = g.W.Sink.heard in
    at_end config (g.G.Gate.may_answer c.args.env.now.gate.now) g.W.Sink.wants_first c.args.script.now (contents c.args.writer.now) (contents c.loop-rest.writer) c.loop-rest.replies
    (heard c.args.writer.now) (heard c.loop-rest.writer) (progress_of (view_of c.loop-rest.pass)) c.loop-rest.number c.loop-rest.status
    (rw c.in_default.is at c.loop-rest.invariant.stands config seat)
