use Rattle.std.proofs.Common.{◌++◌, take, ◌∙◌}
use Rattle.trace_session.proofs.DeviceLemmas.{Appends_append, more_of_front}
use Rattle.trace_session.proofs.replies.write_all.Goals as goal

pub loop-rest-preserved : goal.loop-rest-preserved
loop-rest-preserved g c =
    let front = c.loop-rest.invariant.0 in
    let rest = c.loop-rest.rest.now in
    let n = c.in_ok-count.count in
    let contents = g.W.Sink.contents in (
      front ++ take n rest,
      more_of_front c.args.text.now front rest n c.loop-rest.invariant.1,
      Appends_append (contents c.args.writer.now) (contents c.loop-rest.writer) (contents c.write_some.new.writer) front (take n rest) c.loop-rest.invariant.2
          c.in_ok-count.ensures.bytes.2,
      c.in_ok-count.ensures.failures ∙ c.loop-rest.invariant.3,
      c.write_some.ensures.heard ∙ c.loop-rest.invariant.4,
    )
