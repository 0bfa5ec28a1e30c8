use Rattle.std.proofs.Common.{ℕ, List, ap, ◌∙◌}
use Rattle.refusal_explanations.specs.Layout.{shown}
use Rattle.refusal_explanations.proofs.explainer.Explainer.told_of_fault.Goals as goal

pub returns : goal.returns
returns c =
    let words : List ℕ = c.as_bytes-words.result.now in
    let meant : List ℕ = c.as_bytes-meant.result.now in
    record {
      caret = c.in_ok-caret.caret;
      under = tt;
      words = words;
      meant = meant;
      shows = c.in_ok-text.ensures
          ∙ ap (λ (name : List ℕ). shown c.args.line.script.now c.args.line.number c.args.line.text.now c.in_ok-caret.caret name words meant) c.name.ensures;
    }
