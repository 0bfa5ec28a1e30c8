use Rattle.trace_lex.proofs.NumberLemmas.{one_digit, one_more_digit, no_digits}
use Rattle.trace_lex.proofs.laws.digits_have_their_value.Goals as goal

pub returns-clause-one : goal.returns-clause-one
returns-clause-one c = one_digit

pub returns-clause-more : goal.returns-clause-more
returns-clause-more c = one_more_digit

pub returns-clause-none : goal.returns-clause-none
returns-clause-none c = no_digits
