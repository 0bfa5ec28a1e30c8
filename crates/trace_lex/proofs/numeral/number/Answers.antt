use Rattle.std.proofs.Common.{arith}
use Rattle.std.proofs.lemmas.Grind.{common_steps}
use Rattle.trace_lex.proofs.numeral.number.Goals as goal

pub returns-in-None : goal.returns-in-None
returns-in-None c = grind (arith, common_steps)

pub returns-in-None-magnitude : goal.returns-in-None-magnitude
returns-in-None-magnitude c = grind arith

pub returns-in-Some : goal.returns-in-Some
returns-in-Some c = grind (arith, common_steps)

pub returns-in-empty : goal.returns-in-empty
returns-in-empty c = grind arith

pub returns-in-Some-magnitude : goal.returns-in-Some-magnitude
returns-in-Some-magnitude c = grind arith
