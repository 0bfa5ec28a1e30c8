use Rattle.std.proofs.Common.{◌≡◌, ◌++◌, drop}
use Rattle.refusal_explanations.specs.Carets.{starts_from, starts_of}
use Rattle.refusal_explanations.proofs.caret.starts.Given as goal

abbrev pub invariant-loop-at : goal.invariant-loop-at
invariant-loop-at l = l.starts.items ++ starts_from l.stand l.at (drop l.at l.line) ≡ starts_of l.line
