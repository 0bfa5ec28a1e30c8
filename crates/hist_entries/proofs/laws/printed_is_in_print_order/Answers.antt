use Rattle.hist_entries.proofs.PrintLaws as lemmas
use Rattle.hist_entries.proofs.laws.printed_is_in_print_order.Goals as goal

pub returns-clause-printed : goal.returns-clause-printed
returns-clause-printed c = lemmas.printed_is_in_print_order

pub returns-clause-only : goal.returns-clause-only
returns-clause-only c = lemmas.one_print_order
