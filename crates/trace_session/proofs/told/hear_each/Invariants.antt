use Rattle.std.proofs.Common.{◌≡◌, map}
use Rattle.std.specs.Option.{option_copied}
use Rattle.script_reader.specs.ScriptLines.{lines_of, lines_left}
use Rattle.trace_session.specs.private.HeardItems.{heard_each}
use Rattle.parallel_output.specs.declared.outcome_at.OutcomeAt.{OutcomeAt}
use Rattle.trace_session.proofs.Hearing.{HearsOn, LeftInOrder}
use Rattle.trace_session.proofs.told.hear_each.Given as goal

-- what the writer holds stays, and no call failed; what was heard and what is left are all
abbrev pub invariant-loop-number : goal.invariant-loop-number
invariant-loop-number g l =
    let contents = g.W.Sink.contents in
    let failures = g.W.Sink.failures in
    let heard = g.W.Sink.heard in
    let held = contents l.fn.writer in
    record {
      bytes : contents l.writer ≡ contents l.fn.writer;
      failures : failures l.writer ≡ failures l.fn.writer;
      heard : HearsOn (heard l.fn.writer) (heard l.writer) (heard_each l.first (lines_of l.text) held l.number-iterator.rest.items)
          (heard_each l.first (lines_of l.text) held l.fn.outcomes.items);
      order : LeftInOrder l.first (lines_of l.text) l.lines.number (lines_left (option_copied l.lines.rest))
          (map (λ (one : OutcomeAt). one.number) l.number-iterator.rest.items);
    }
