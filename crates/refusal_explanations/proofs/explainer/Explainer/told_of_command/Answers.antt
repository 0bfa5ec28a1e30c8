use Rattle.std.proofs.Common.{ℕ, List, ap, ◌∙◌}
use Rattle.trace_command.specs.Commands.{Command}
use Rattle.refusal_explanations.specs.Layout.{shown}
use Rattle.refusal_explanations.specs.Places.{refusal_place}
use Rattle.refusal_explanations.proofs.explainer.Explainer.told_of_command.Goals as goal

pub returns : goal.returns
returns c =
    let words : List ℕ = c.deref-2.result.now in
    let meant : List ℕ = c.deref-3.result.now in
    record {
      caret = c.in_ok-caret.caret;
      under = c.in_ok-caret.ensures
          ∙ ap (λ (command : Command). refusal_place c.args.line.text.now command c.args.refusal.now) c.requires;
      words = words;
      meant = meant;
      shows = c.in_ok-text.ensures
          ∙ ap (λ (name : List ℕ). shown c.args.line.script.now c.args.line.number c.args.line.text.now c.in_ok-caret.caret name words meant) c.name.ensures;
    }
