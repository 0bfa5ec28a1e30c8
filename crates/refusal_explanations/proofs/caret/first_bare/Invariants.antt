use Rattle.std.proofs.Common.{◌≡◌, drop}
use Rattle.std.specs.Prelude.{find}
use Rattle.refusal_explanations.specs.Carets.{first_bare, is_bare, starts_from}
use Rattle.refusal_explanations.proofs.caret.first_bare.Given as goal

abbrev pub invariant-loop-at : goal.invariant-loop-at
invariant-loop-at l = find (λ at. is_bare (drop at l.line)) (starts_from l.stand l.at (drop l.at l.line)) ≡ first_bare l.line
