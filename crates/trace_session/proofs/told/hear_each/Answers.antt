use Rattle.std.proofs.Common.{ℕ, List, ◌∷◌, Some, map, subst, ◌∙◌}
use Rattle.std.specs.Option.{option_copied}
use Rattle.script_reader.specs.ScriptLines.{lines_of, lines_left}
use Rattle.trace_session.specs.Heard.{Heard, line_at}
use Rattle.trace_session.specs.private.HeardItems.{heard_each}
use Rattle.parallel_output.specs.declared.outcome_at.OutcomeAt.{OutcomeAt}
use Rattle.trace_session.proofs.Hearing.{HearsOn, LeftInOrder, hears_next, next_is_left, same_line, left_after}
use Rattle.trace_session.proofs.told.hear_each.Goals as goal

pub hear_line-requires : goal.hear_line-requires
hear_line-requires g c =
    let l = c.loop-number in
    let one = c.in-Some.field-0 in
    let more = c.next.new.self.rest.items in
    let all = lines_of c.args.text.now in
    let left = lines_left (option_copied l.lines.rest) in
    let numbers : List OutcomeAt → List ℕ = map (λ (x : OutcomeAt). x.number) in
    let order : LeftInOrder c.args.first all l.lines.number left (numbers (one ∷ more)) =
    subst (λ (xs : List OutcomeAt). LeftInOrder c.args.first all l.lines.number left (numbers xs)) c.in-Some.ensures.steps.0 l.invariant.order in
    next_is_left c.args.first all l.lines.number left one.number (numbers more) order

pub loop-number-preserved : goal.loop-number-preserved
loop-number-preserved g c =
    let contents = g.W.Sink.contents in
    let heard = g.W.Sink.heard in
    let l = c.loop-number in
    let one = c.in-Some.field-0 in
    let more = c.next.new.self.rest.items in
    let all = lines_of c.args.text.now in
    let left = lines_left (option_copied l.lines.rest) in
    let held = contents c.args.writer.now in
    let each : List OutcomeAt → List Heard = heard_each c.args.first all held in
    let numbers : List OutcomeAt → List ℕ = map (λ (x : OutcomeAt). x.number) in
    let next = c.in-Some.ensures.steps.0 in
    let order : LeftInOrder c.args.first all l.lines.number left (numbers (one ∷ more)) =
    subst (λ (xs : List OutcomeAt). LeftInOrder c.args.first all l.lines.number left (numbers xs)) next l.invariant.order in
    let so_far : HearsOn (heard c.args.writer.now) (heard l.writer) (each (one ∷ more)) (each c.args.outcomes.items) =
    subst (λ (xs : List OutcomeAt). HearsOn (heard c.args.writer.now) (heard l.writer) (each xs) (each c.args.outcomes.items)) next l.invariant.heard in
    record {
      bytes = c.hear_line.ensures.bytes ∙ l.invariant.bytes;
      failures = c.hear_line.ensures.failures ∙ l.invariant.failures;
      heard = hears_next (heard c.args.writer.now) (heard l.writer) (heard c.hear_line.new.writer) one.number (line_at c.args.first all one.number)
          (line_at l.lines.number left one.number) (Some one.outcome) held (contents l.writer) (each more) (each c.args.outcomes.items)
          (same_line c.args.first all l.lines.number left one.number (numbers more) order) l.invariant.bytes so_far c.hear_line.ensures.heard;
      order = left_after c.args.first all l.lines.number left one.number (numbers more) order c.hear_line.new.lines.number
          (lines_left (option_copied c.hear_line.new.lines.rest)) c.hear_line.ensures.later;
    }
