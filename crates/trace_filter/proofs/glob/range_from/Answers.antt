use Rattle.std.proofs.Common.{arith}
use Rattle.std.proofs.lemmas.Grind.{common_steps}
use Rattle.trace_filter.proofs.glob.range_from.Goals as goal

pub returns-in-45-clause-range : goal.returns-in-45-clause-range
returns-in-45-clause-range c = grind (arith, common_steps)

pub returns-in-45-clause-shorter : goal.returns-in-45-clause-shorter
returns-in-45-clause-shorter c = grind (arith, common_steps)

pub returns-in_default-clause-range : goal.returns-in_default-clause-range
returns-in_default-clause-range c = grind (arith, common_steps)

pub returns-in_default-clause-shorter : goal.returns-in_default-clause-shorter
returns-in_default-clause-shorter c = grind (arith, common_steps)
