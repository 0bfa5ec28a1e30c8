use Rattle.std.proofs.Common.{arith, rules}
use Rattle.trace_lex.proofs.numeral.push_digit.Goals as goal

pub returns-in_err-digit : goal.returns-in_err-digit
returns-in_err-digit c = grind arith

pub returns-in_err-shifted : goal.returns-in_err-shifted
returns-in_err-shifted c = grind arith

pub returns : goal.returns
returns c = search rules
