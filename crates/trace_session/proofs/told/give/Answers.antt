use Rattle.std.proofs.Common.{◌∙◌}
use Rattle.std.proofs.lemmas.Result.{err_from_is_err_and}
use Rattle.trace_session.specs.Sessions.{text_of}
use Rattle.trace_session.proofs.DeviceLemmas.{Passes_cut, Passes_flushed}
use Rattle.trace_session.proofs.told.give.Goals as goal

pub returns-in_err-write_outcome : goal.returns-in_err-write_outcome
returns-in_err-write_outcome g c =
    let failed = c.write_outcome.ensures in
    let p = err_from_is_err_and c.from_residual.result c.from_residual.ensures.1 in
    record {
      status = rw p.1 tt;
      written = rw p.1 tt;
      failures = rw p.1 tt;
      memory = λ is. failed.memory (cc (is, p.1, p.2, c.in_err-write_outcome.was));
      unfailed = λ is. failed.unfailed (cc (is, p.1, p.2, c.in_err-write_outcome.was));
      stopped = λ is. failed.stopped (cc (is, p.1, p.2, c.in_err-write_outcome.was));
      device = λ is. failed.device (cc (is, p.1, p.2, c.in_err-write_outcome.was));
      heard = rw p.1 tt;
      all = rw p.1 tt;
      unheard = rw p.1 failed.heard;
    }

pub returns-in_err-tell : goal.returns-in_err-tell
returns-in_err-tell g c =
    let contents = g.W.Sink.contents in
    let wrote = c.in_ok-write_outcome.ensures in
    let failed = c.in_err-tell.ensures in
    let p = err_from_is_err_and c.from_residual-in_err-tell.result c.from_residual-in_err-tell.ensures.1 in
    record {
      status = rw p.1 tt;
      written = rw p.1 tt;
      failures = rw p.1 tt;
      memory = λ is. absurd (failed.memory (cc (is, p.1, p.2, c.in_err-tell.was)));
      unfailed = λ is. absurd (failed.memory (cc (is, p.1, p.2, c.in_err-tell.was)));
      stopped = λ is. failed.stopped (cc (is, p.1, p.2, c.in_err-tell.was));
      device = λ _. (
        rw wrote.failures at failed.failed.0,
        Passes_cut (contents c.args.writer.now) (contents c.write_outcome.new.writer) (contents c.tell.new.writer) c.args.replies.now c.write_outcome.new.replies
            (text_of c.args.number c.args.outcome.now) wrote.written failed.failed.1,
      );
      heard = rw p.1 tt;
      all = rw p.1 tt;
      unheard = rw p.1 (failed.unheard ∙ wrote.heard);
    }

pub returns : goal.returns
returns g c =
    let contents = g.W.Sink.contents in
    let wrote = c.in_ok-write_outcome.ensures in
    let told = c.in_ok-tell.ensures in
    record {
      status = c.line_status.ensures;
      written = Passes_flushed (contents c.args.writer.now) (contents c.write_outcome.new.writer) (contents c.tell.new.writer) c.args.replies.now c.write_outcome.new.replies c.tell.new.replies
          (text_of c.args.number c.args.outcome.now) wrote.written told.written;
      failures = told.failures ∙ wrote.failures;
      memory = λ is. absurd (cc is);
      unfailed = λ is. absurd (cc is);
      stopped = λ is. absurd (cc is);
      device = λ is. absurd (cc is);
      heard = rw wrote.heard at told.heard;
      all = rw wrote.heard at told.all;
      unheard = tt;
    }
