use Rattle.std.specs.Cmp.Lexicographic.{bytes_decides}
use Rattle.std.proofs.lemmas.Slice.Eq.{slice_eq-Decides}
use Rattle.trace_trigger.proofs.spec.is_same_keys.Goals as goal

pub returns-clause-same : goal.returns-clause-same
returns-clause-same c = slice_eq-Decides bytes_decides _ _ _ c.are_written_alike.ensures
