use Rattle.trace_session.proofs.DeviceLemmas.{Passes_cut, Passes_flushed}
use Rattle.trace_session.proofs.told.give_part.Goals as goal

pub returns-in_err-tell_part-clause-device : goal.returns-in_err-tell_part-clause-device
returns-in_err-tell_part-clause-device g c h =
    let contents = g.W.Sink.contents in
    let failed = c.in_err-tell_part.ensures.failed in (
      rw c.in_ok-add.ensures.failures at failed.0,
      Passes_cut (contents c.args.writer.now) (contents c.add.new.writer) (contents c.tell_part.new.writer) c.args.replies.now c.add.new.self
          c.args.given.text.items (rw c.deref.ensures.value at c.in_ok-add.ensures.bytes) failed.1,
    )

pub returns-clause-written : goal.returns-clause-written
returns-clause-written g c =
    let contents = g.W.Sink.contents in
    Passes_flushed (contents c.args.writer.now) (contents c.add.new.writer) (contents c.tell_part.new.writer) c.args.replies.now c.add.new.self c.tell_part.new.waiting
    c.args.given.text.items (rw c.deref.ensures.value at c.in_ok-add.ensures.bytes) c.in_ok-tell_part.ensures.written
