use Rattle.trace_lex.proofs.DecimalLemmas.{numbers_are_of_digits, one_digit_is_its_value, each_digit_is_times_ten}
use Rattle.trace_lex.proofs.laws.decimals_are_as_written.Goals as goal

pub returns-clause-there : goal.returns-clause-there
returns-clause-there c = numbers_are_of_digits

pub returns-clause-one : goal.returns-clause-one
returns-clause-one c = one_digit_is_its_value

pub returns-clause-more : goal.returns-clause-more
returns-clause-more c = each_digit_is_times_ten
