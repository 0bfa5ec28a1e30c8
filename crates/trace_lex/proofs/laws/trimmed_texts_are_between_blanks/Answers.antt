use Rattle.trace_lex.proofs.BlankLemmas.{trimmed_is_between, without_end_is_before}
use Rattle.trace_lex.proofs.laws.trimmed_texts_are_between_blanks.Goals as goal

pub returns-clause-trimmed : goal.returns-clause-trimmed
returns-clause-trimmed c = trimmed_is_between

pub returns-clause-without_end : goal.returns-clause-without_end
returns-clause-without_end c = without_end_is_before
