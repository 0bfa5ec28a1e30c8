use Rattle.std.proofs.Common.{◌≢◌, ◌<◌, All, Err, length, arith, ap}
use Rattle.trace_command.specs.declared.refusal.Refusal.TheVariants.{Worn}
use Rattle.parallel_output.proofs.ThreadWriting.{text_left, outcomes_left, refused_left, unworn_left}
use Rattle.parallel_output.proofs.transcript.Transcript.add_replies.Goals as goal

pub loop-reply-preserved : goal.loop-reply-preserved
loop-reply-preserved c =
    let numbers = c.args.numbers.now in
    let l = c.loop-reply in
    let left = l.reply-iterator.rest.items in
    let more = c.next.new.self.rest.items in
    let next = c.in-Some.ensures.steps.0 in
    let within : l.i < length numbers = omega (arith, l.invariant.left, ap length next) in
    let grown = c.in_ok-add_reply.ensures in
    record {
      left = omega (arith, l.invariant.left, ap length next);
      text = text_left numbers l.i left more c.in-Some.reply within next l.self.text.items c.add_reply.new.self.text.items _ l.invariant.text grown.text;
      outcomes = outcomes_left numbers l.i left more c.in-Some.reply within next c.args.is_told l.self.outcomes.items c.add_reply.new.self.outcomes.items _
          l.invariant.outcomes grown.outcomes;
      refused = refused_left numbers l.i left more c.in-Some.reply within next l.self.is_refused c.add_reply.new.self.is_refused _ l.invariant.refused grown.refused;
      unworn = unworn_left numbers l.i left more c.in-Some.reply within next (All (λ reply. reply ≢ Err Worn) c.args.replies.items) l.invariant.unworn grown.unworn;
    }
