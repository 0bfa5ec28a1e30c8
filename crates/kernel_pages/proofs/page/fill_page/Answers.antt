use Rattle.kernel_pages.proofs.TakingLemmas.{counted_are_a_page, counted_are_all}
use Rattle.kernel_pages.proofs.PageLemmas.{first_is_taken}
use Rattle.kernel_pages.proofs.page.fill_page.Goals as goal

pub page_of-requires : goal.page_of-requires
page_of-requires c = counted_are_a_page c.args.rows.now c.count_taken-taken.result c.count_taken-taken.ensures.count

pub returns-clause-fits : goal.returns-clause-fits
returns-clause-fits c = counted_are_a_page c.args.rows.now c.count_taken-taken.result c.count_taken-taken.ensures.count

pub returns-clause-all : goal.returns-clause-all
returns-clause-all c = counted_are_all c.args.rows.now c.count_taken-taken.result c.count_taken-taken.ensures.count

pub returns-clause-some : goal.returns-clause-some
returns-clause-some c = first_is_taken c.args.rows.now c.count_taken-taken.result (counted_are_all c.args.rows.now c.count_taken-taken.result c.count_taken-taken.ensures.count)
