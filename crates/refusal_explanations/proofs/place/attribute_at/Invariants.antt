use Rattle.std.proofs.Common.{◌≡◌, drop}
use Rattle.refusal_explanations.specs.Places.{attribute_from}
use Rattle.refusal_explanations.proofs.place.attribute_at.Given as goal

abbrev pub invariant-loop-at : goal.invariant-loop-at
invariant-loop-at l = attribute_from l.attribute l.at (drop l.at l.text) ≡ attribute_from l.attribute 0 l.text
