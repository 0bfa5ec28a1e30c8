use Rattle.std.proofs.Common.{◌≡◌, drop}
use Rattle.refusal_explanations.specs.Carets.{is_bare, is_bare_from}
use Rattle.refusal_explanations.proofs.caret.is_bare.Given as goal

abbrev pub invariant-loop-byte : goal.invariant-loop-byte
invariant-loop-byte l = is_bare_from l.stand (drop l.byte-index l.text) ≡ is_bare l.text
