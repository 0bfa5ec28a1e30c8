use Rattle.std.proofs.Common.{◌≡◌, ◌++◌, drop}
use Rattle.refusal_explanations.specs.Carets.{offsets_from, offsets_of}
use Rattle.refusal_explanations.proofs.caret.offsets.Given as goal

abbrev pub invariant-loop-at : goal.invariant-loop-at
invariant-loop-at l = l.offsets.items ++ offsets_from l.stand l.end l.at (drop l.at l.line) ≡ offsets_of l.line
