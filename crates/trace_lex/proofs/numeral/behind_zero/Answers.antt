use Rattle.std.proofs.Common.{arith}
use Rattle.std.proofs.lemmas.Grind.{common_steps}
use Rattle.trace_lex.proofs.numeral.behind_zero.Goals as goal

pub returns-in-120 : goal.returns-in-120
returns-in-120 c = grind (arith, common_steps)

pub returns-in-empty : goal.returns-in-empty
returns-in-empty c = grind arith

pub returns-in_default : goal.returns-in_default
returns-in_default c = grind arith
