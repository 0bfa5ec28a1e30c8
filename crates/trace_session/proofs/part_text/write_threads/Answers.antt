use Rattle.std.proofs.Common.{◌≡◌, ◌<◌, length, arith, rules, All, ap, ◌∙◌, is_err}
use Rattle.std.proofs.lemmas.Grind.{common_steps}
use Rattle.std.specs.List.{list_any}
use Rattle.trace_session.specs.PartTexts.{replies_in}
use Rattle.tracer_specification.specs.Blocks.{IsUnworn}
use Rattle.trace_session.proofs.PartWriting.{status_is, numbered_later, text_later, outcomes_later, refused_later, unworn_later}
use Rattle.trace_session.proofs.part_text.write_threads.Goals as goal

pub loop-part-preserved : goal.loop-part-preserved
loop-part-preserved c =
    let numbers = c.args.numbers.now in
    let l = c.loop-part in
    let own = c.index-numbers-thread.result in
    let left = l.part-iterator.rest.items in
    let more = c.next.new.self.rest.items in
    let next = c.in-Some.ensures.steps.0 in
    let within : l.thread < length numbers = omega (arith, l.invariant.left, ap length next) in
    let grown = c.in_ok-transcript-2.ensures in
    let now = c.in_ok-transcript-2.transcript in
    record {
      left = omega (arith, l.invariant.left, ap length next);
      numbered = numbered_later numbers l.thread own left more c.in-Some.part within c.index-numbers-thread.is next l.invariant.numbered;
      text = text_later numbers l.thread own left more c.in-Some.part within c.index-numbers-thread.is next l.transcript.text.items now.text.items _ l.invariant.text
          (rw (← c.deref.ensures.value) grown.text);
      outcomes = outcomes_later numbers l.thread own left more c.in-Some.part within c.index-numbers-thread.is next c.args.is_told l.transcript.outcomes.items now.outcomes.items _
          l.invariant.outcomes (rw (← c.deref.ensures.value) grown.outcomes);
      refused = refused_later numbers l.thread own left more c.in-Some.part within c.index-numbers-thread.is next l.transcript.is_refused now.is_refused _ l.invariant.refused
          grown.refused;
      unworn = unworn_later numbers l.thread own left more c.in-Some.part within c.index-numbers-thread.is next (All IsUnworn (replies_in c.args.done.items)) l.invariant.unworn
          grown.unworn;
    }

-- the status of all commands
pub returns-clause-status : goal.returns-clause-status
returns-clause-status c =
    let replies = replies_in c.args.done.items in
    let told : c.loop-part.transcript.is_refused ≡ list_any (list_any is_err) replies = first_of (search rules, grind (arith, common_steps)) in
    c.finish.ensures.status ∙ status_is replies c.loop-part.transcript.is_refused told
