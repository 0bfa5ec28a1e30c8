use Rattle.trace_format.proofs.Complements.{adds, stays, pattern_fits, pattern_through, casts, pattern_is}
use Rattle.trace_format.proofs.payload.pattern.Goals as goal

pub overflow_add-result : goal.overflow_add-result
overflow_add-result c = pattern_fits _ _ _ (adds _ _ _ c.ranges.number c.requires c.end.ensures c.if-number-lt0.true)

pub overflow_cast-result : goal.overflow_cast-result
overflow_cast-result c = casts _ _ _ (pattern_through _ _ _ (adds _ _ _ c.ranges.number c.requires c.end.ensures c.if-number-lt0.true))

pub overflow_cast-result-else-number-lt0 : goal.overflow_cast-result-else-number-lt0
overflow_cast-result-else-number-lt0 c = casts _ _ _ (stays _ _ c.ranges.number c.requires c.if-number-lt0.false)

pub returns-then-number-lt0 : goal.returns-then-number-lt0
returns-then-number-lt0 c = pattern_is _ _ _ (pattern_through _ _ _ (adds _ _ _ c.ranges.number c.requires c.end.ensures c.if-number-lt0.true))

pub returns-else-number-lt0 : goal.returns-else-number-lt0
returns-else-number-lt0 c = pattern_is _ _ _ (stays _ _ c.ranges.number c.requires c.if-number-lt0.false)
