use Rattle.std.proofs.Common.{◌≡◌, drop}
use Rattle.std.specs.Prelude.{slice_get}
use Rattle.refusal_explanations.specs.Carets.{starts_from, word_at}
use Rattle.refusal_explanations.proofs.caret.word_at.Given as goal

abbrev pub invariant-loop-at : goal.invariant-loop-at
invariant-loop-at l = slice_get (starts_from l.stand l.at (drop l.at l.line)) l.left ≡ word_at l.line l.index
