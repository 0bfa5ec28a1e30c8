use Rattle.std.proofs.Common.{arith}
use Rattle.std.proofs.lemmas.Int.{ints}
use Rattle.trace_lex.specs.Decimals.{decimal_number}
use Rattle.trace_script.proofs.NumberLemmas.{found_le}
use Rattle.trace_script.proofs.number.process_id.Goals as goal

pub overflow_cast-result : goal.overflow_cast-result
overflow_cast-result c = let few = found_le 2147483647 (decimal_number c.args.text.now) c.in_ok-number.number c.in_ok-number.ensures in omega (arith, ints)
