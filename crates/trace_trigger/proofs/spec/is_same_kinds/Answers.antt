use Rattle.std.specs.Cmp.{booleans_Decides}
use Rattle.std.proofs.lemmas.Slice.Eq.{slice_eq-Decides}
use Rattle.trace_trigger.proofs.spec.is_same_kinds.Goals as goal

pub returns-clause-same : goal.returns-clause-same
returns-clause-same c = slice_eq-Decides booleans_Decides _ _ _ c.are_alike_in_kind.ensures
